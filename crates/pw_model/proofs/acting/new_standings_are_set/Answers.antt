use Rattle.std.proofs.Common.{refl}
use Rattle.pw_plan.specs.declared.domain.DomainKind.TheVariants as kinds
use Rattle.pw_plan.specs.declared.request.Request.TheVariants.{Perf, PerfLimit, Throttle, ThrottleLimit}
use Rattle.pw_model.specs.Operations.{accepted_ops}
use Rattle.pw_model.proofs.Operating.{sets}
use Rattle.pw_model.proofs.acting.new_standings_are_set.Goals as goal

pub returns-clause-perf : goal.returns-clause-perf
unfolding accepted_ops
returns-clause-perf c = λ P S p i. sets P S kinds.Perf p (Perf p i) (λ T. refl)

pub returns-clause-throttle : goal.returns-clause-throttle
unfolding accepted_ops
returns-clause-throttle c = λ P S p i. sets P S kinds.Throttle p (Throttle p i) (λ T. refl)

pub returns-clause-perf_limit : goal.returns-clause-perf_limit
unfolding accepted_ops
returns-clause-perf_limit c = λ P S p n. sets P S kinds.Perf p (PerfLimit p n) (λ T. refl)

pub returns-clause-throttle_limit : goal.returns-clause-throttle_limit
unfolding accepted_ops
returns-clause-throttle_limit c = λ P S p n. sets P S kinds.Throttle p (ThrottleLimit p n) (λ T. refl)
