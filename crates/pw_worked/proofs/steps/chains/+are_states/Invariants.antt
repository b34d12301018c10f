use Rattle.std.proofs.Common.{length, ◌≡◌, ◌<◌, ℕ, IfSome, IsTrue, Some, ◌+◌, ◌-◌, ◌*◌, ◌≤◌}
use Rattle.pw_plan.specs.Tree.{line_from}
use Rattle.pw_core.specs.Chains.{AreStates, IsChain}
use Rattle.pw_worked.proofs.steps.chains.+are_states.Given as goal

-- proposed from what the function passes where it calls itself
abbrev pub decreases-are_states : goal.decreases-are_states
decreases-are_states l = length l.states.now
