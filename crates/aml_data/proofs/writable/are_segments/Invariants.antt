use Rattle.std.proofs.Common.{take}
use Rattle.std.specs.List.{AllByRecursion}
use Rattle.aml_data.specs.Segment.{IsSegment}
use Rattle.aml_data.proofs.writable.are_segments.Given as goal

abbrev pub invariant-loop-seg : goal.invariant-loop-seg
invariant-loop-seg l = AllByRecursion IsSegment (take l.seg-index l.segs)
