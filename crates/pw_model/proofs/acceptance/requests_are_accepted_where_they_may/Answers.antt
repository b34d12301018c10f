use Rattle.std.proofs.Common.{refl}
use Rattle.pw_plan.specs.declared.domain.DomainKind.TheVariants as kinds
use Rattle.pw_model.specs.Refusals.{idle_refusal, limit_refusal}
use Rattle.pw_model.proofs.Accepting.{ask_by, ask_from, idle_by, idle_from, limit_by, limit_from, or_nothing}
use Rattle.pw_model.proofs.Fitting.{none_first}
use Rattle.pw_model.proofs.acceptance.requests_are_accepted_where_they_may.Goals as goal

pub returns-clause-idle : goal.returns-clause-idle
returns-clause-idle c = λ P S p s t. (λ e. idle_from P p s t (none_first (idle_refusal P p s t) _ e), λ h. or_nothing (idle_refusal P p s t) (idle_by P p s t h))

pub returns-clause-wake : goal.returns-clause-wake
returns-clause-wake c = λ P S p. refl

pub returns-clause-perf : goal.returns-clause-perf
returns-clause-perf c = λ P S p i. (λ e. ask_from P kinds.Perf p S i e, λ h. ask_by P kinds.Perf p S i h)

pub returns-clause-throttle : goal.returns-clause-throttle
returns-clause-throttle c = λ P S p i. (λ e. ask_from P kinds.Throttle p S i e, λ h. ask_by P kinds.Throttle p S i h)

pub returns-clause-perf_limit : goal.returns-clause-perf_limit
returns-clause-perf_limit c = λ P S p n.
    (λ e. limit_from P kinds.Perf p (none_first (limit_refusal P kinds.Perf p) _ e), λ h. or_nothing (limit_refusal P kinds.Perf p) (limit_by P kinds.Perf p h))

pub returns-clause-throttle_limit : goal.returns-clause-throttle_limit
returns-clause-throttle_limit c = λ P S p n.
    (λ e. limit_from P kinds.Throttle p (none_first (limit_refusal P kinds.Throttle p) _ e), λ h. or_nothing (limit_refusal P kinds.Throttle p) (limit_by P kinds.Throttle p h))
