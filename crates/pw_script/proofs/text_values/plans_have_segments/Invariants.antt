use Rattle.std.proofs.Common.{length}
use Rattle.std.specs.List.{AllByRecursion}
use Rattle.pw_script.specs.Telling.{IsOfSegments}
use Rattle.pw_script.proofs.text_values.plans_have_segments.Given as goal

abbrev pub invariant-loop-left : goal.invariant-loop-left
invariant-loop-left l = AllByRecursion IsOfSegments l.left → AllByRecursion IsOfSegments l.plan.cpus

abbrev pub decreases-loop-left : goal.decreases-loop-left
decreases-loop-left l = length l.left
