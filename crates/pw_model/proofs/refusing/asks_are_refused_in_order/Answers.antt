use Rattle.pw_plan.specs.declared.domain.DomainKind.TheVariants as kinds
use Rattle.pw_model.specs.declared.reply.Reply.TheVariants.{AboveLimit, NoState, NoTable, Unfit}
use Rattle.pw_model.proofs.Reasons.{above_said, ask_reason, domain_said, no_scale_said, no_such_said, unfit_domain_said}
use Rattle.pw_model.proofs.refusing.asks_are_refused_in_order.Goals as goal

pub returns-clause-perf_table : goal.returns-clause-perf_table
returns-clause-perf_table c = λ P S p i. (
  λ e. ask_reason P kinds.Perf p S i NoTable e,
  λ h. domain_said P kinds.Perf p S i NoTable (no_scale_said P kinds.Perf p h),
)

pub returns-clause-perf_unfit : goal.returns-clause-perf_unfit
returns-clause-perf_unfit c = λ P S p i d why. (
  λ e. ask_reason P kinds.Perf p S i (Unfit d why) e,
  λ h. domain_said P kinds.Perf p S i (Unfit d why) (unfit_domain_said P kinds.Perf p d why h),
)

pub returns-clause-perf_state : goal.returns-clause-perf_state
returns-clause-perf_state c = λ P S p i count.
    (λ e. ask_reason P kinds.Perf p S i (NoState count) e, λ h. no_such_said P kinds.Perf p S i count h)

pub returns-clause-perf_limit : goal.returns-clause-perf_limit
returns-clause-perf_limit c = λ P S p i limit.
    (λ e. ask_reason P kinds.Perf p S i (AboveLimit limit) e, λ h. above_said P kinds.Perf p S i limit h)

pub returns-clause-throttle_table : goal.returns-clause-throttle_table
returns-clause-throttle_table c = λ P S p i. (
  λ e. ask_reason P kinds.Throttle p S i NoTable e,
  λ h. domain_said P kinds.Throttle p S i NoTable (no_scale_said P kinds.Throttle p h),
)

pub returns-clause-throttle_unfit : goal.returns-clause-throttle_unfit
returns-clause-throttle_unfit c = λ P S p i d why. (
  λ e. ask_reason P kinds.Throttle p S i (Unfit d why) e,
  λ h. domain_said P kinds.Throttle p S i (Unfit d why) (unfit_domain_said P kinds.Throttle p d why h),
)

pub returns-clause-throttle_state : goal.returns-clause-throttle_state
returns-clause-throttle_state c = λ P S p i count.
    (λ e. ask_reason P kinds.Throttle p S i (NoState count) e, λ h. no_such_said P kinds.Throttle p S i count h)

pub returns-clause-throttle_limit : goal.returns-clause-throttle_limit
returns-clause-throttle_limit c = λ P S p i limit.
    (λ e. ask_reason P kinds.Throttle p S i (AboveLimit limit) e, λ h. above_said P kinds.Throttle p S i limit h)
