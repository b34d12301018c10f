use Rattle.std.proofs.Common.{length}
use Rattle.std.specs.List.{AllByRecursion}
use Rattle.pw_cppc_drive.specs.Telling.{IsOfSegments}
use Rattle.pw_cppc_drive.proofs.text_values.cppc_plans_have_segments.Given as goal

abbrev pub invariant-loop-left : goal.invariant-loop-left
invariant-loop-left l = AllByRecursion IsOfSegments l.left → AllByRecursion IsOfSegments l.plan.paths

abbrev pub decreases-loop-left : goal.decreases-loop-left
decreases-loop-left l = length l.left
