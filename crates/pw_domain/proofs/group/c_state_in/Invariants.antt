use Rattle.std.proofs.Common.{◌≡◌, set}
use Rattle.pw_model.specs.Containers.{greatest}
use Rattle.pw_model.specs.Effects.{c_state_by, enters_by}
use Rattle.pw_domain.proofs.group.c_state_in.Given as goal

abbrev pub invariant-loop-level : goal.invariant-loop-level
invariant-loop-level l = greatest (enters_by l.plan l.members (set l.states l.place l.own) l.cpu) l.level ≡ c_state_by l.plan l.members (set l.states l.place l.own) l.cpu

abbrev pub decreases-loop-level : goal.decreases-loop-level
decreases-loop-level l = l.level
