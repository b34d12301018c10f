use Rattle.pw_model.specs.declared.reply.Reply.TheVariants.{Disabled, NoState, NoTable, TooSlow, Unfit}
use Rattle.pw_model.specs.Refusals.{idle_refusal}
use Rattle.pw_model.proofs.Reasons.{absent_said, alone, disabled_said, idle_reason, in_front, no_state_said, slow_said, unfit_said}
use Rattle.pw_model.proofs.refusing.idle_requests_are_refused_in_order.Goals as goal

pub returns-clause-no_table : goal.returns-clause-no_table
returns-clause-no_table c = λ P S p s t. (
  λ e. idle_reason P p s t NoTable (alone (idle_refusal P p s t) NoTable e),
  λ h. in_front (idle_refusal P p s t) NoTable (absent_said P p s t h),
)

pub returns-clause-unfit : goal.returns-clause-unfit
returns-clause-unfit c = λ P S p s t number why. (
  λ e. idle_reason P p s t (Unfit number why) (alone (idle_refusal P p s t) (Unfit number why) e),
  λ h. in_front (idle_refusal P p s t) (Unfit number why) (unfit_said P p s t number why h),
)

pub returns-clause-no_state : goal.returns-clause-no_state
returns-clause-no_state c = λ P S p s t count. (
  λ e. idle_reason P p s t (NoState count) (alone (idle_refusal P p s t) (NoState count) e),
  λ h. in_front (idle_refusal P p s t) (NoState count) (no_state_said P p s t count h),
)

pub returns-clause-disabled : goal.returns-clause-disabled
returns-clause-disabled c = λ P S p s t. (
  λ e. idle_reason P p s t Disabled (alone (idle_refusal P p s t) Disabled e),
  λ h. in_front (idle_refusal P p s t) Disabled (disabled_said P p s t h),
)

pub returns-clause-too_slow : goal.returns-clause-too_slow
returns-clause-too_slow c = λ P S p s t latency. (
  λ e. idle_reason P p s t (TooSlow latency) (alone (idle_refusal P p s t) (TooSlow latency) e),
  λ h. in_front (idle_refusal P p s t) (TooSlow latency) (slow_said P p s t latency h),
)
