use Rattle.std.proofs.Common.{length}
use Rattle.std.specs.List.{AllByRecursion}
use Rattle.aml_data.specs.Segment.{IsSegment}
use Rattle.pw_history.proofs.segments.segments_known.Given as goal

abbrev pub invariant-loop-left : goal.invariant-loop-left
invariant-loop-left l = AllByRecursion IsSegment l.left → AllByRecursion IsSegment l.segs

abbrev pub decreases-loop-left : goal.decreases-loop-left
decreases-loop-left l = length l.left
