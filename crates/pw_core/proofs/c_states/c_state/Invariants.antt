use Rattle.std.proofs.Common.{◌≡◌}
use Rattle.pw_model.specs.States.{with_change}
use Rattle.pw_model.specs.Containers.{greatest}
use Rattle.pw_model.specs.Domains.{c_state, may_enter}
use Rattle.pw_core.proofs.c_states.c_state.Given as goal

abbrev pub invariant-loop-level : goal.invariant-loop-level
invariant-loop-level l = greatest (may_enter l.plan (with_change l.state l.change) l.cpu) l.level ≡ c_state l.plan (with_change l.state l.change) l.cpu

abbrev pub decreases-loop-level : goal.decreases-loop-level
decreases-loop-level l = l.level
