use Rattle.pw_plan.specs.declared.domain.DomainKind.TheVariants as kinds
use Rattle.pw_model.specs.declared.reply.Reply.TheVariants.{NoTable, Unfit}
use Rattle.pw_model.specs.Refusals.{limit_refusal}
use Rattle.pw_model.proofs.Reasons.{alone, in_front, limit_reason, no_scale_said, unfit_domain_said}
use Rattle.pw_model.proofs.refusing.limits_are_refused_in_order.Goals as goal

pub returns-clause-perf_table : goal.returns-clause-perf_table
returns-clause-perf_table c = λ P S p n. (
  λ e. limit_reason P kinds.Perf p NoTable (alone (limit_refusal P kinds.Perf p) NoTable e),
  λ h. in_front (limit_refusal P kinds.Perf p) NoTable (no_scale_said P kinds.Perf p h),
)

pub returns-clause-perf_unfit : goal.returns-clause-perf_unfit
returns-clause-perf_unfit c = λ P S p n d why. (
  λ e. limit_reason P kinds.Perf p (Unfit d why) (alone (limit_refusal P kinds.Perf p) (Unfit d why) e),
  λ h. in_front (limit_refusal P kinds.Perf p) (Unfit d why) (unfit_domain_said P kinds.Perf p d why h),
)

pub returns-clause-throttle_table : goal.returns-clause-throttle_table
returns-clause-throttle_table c = λ P S p n. (
  λ e. limit_reason P kinds.Throttle p NoTable (alone (limit_refusal P kinds.Throttle p) NoTable e),
  λ h. in_front (limit_refusal P kinds.Throttle p) NoTable (no_scale_said P kinds.Throttle p h),
)

pub returns-clause-throttle_unfit : goal.returns-clause-throttle_unfit
returns-clause-throttle_unfit c = λ P S p n d why. (
  λ e. limit_reason P kinds.Throttle p (Unfit d why) (alone (limit_refusal P kinds.Throttle p) (Unfit d why) e),
  λ h. in_front (limit_refusal P kinds.Throttle p) (Unfit d why) (unfit_domain_said P kinds.Throttle p d why h),
)
