use Rattle.std.proofs.Common.{◌≡◌}
use Rattle.pw_plan.specs.Places.{IsIn}
use Rattle.pw_core.specs.Chains.{IsChain}
use Rattle.pw_worked.proofs.steps.walk.climb.Given as goal

abbrev pub invariant-loop-step : goal.invariant-loop-step
invariant-loop-step l = IsIn l.plan l.child × IsChain l.chain
