use Rattle.std.proofs.Common.{◌≤◌, length, drop}
use Rattle.aml_data.specs.Segment.{joined}
use Rattle.aml_data.specs.inner.Filling.{Fills}
use Rattle.aml_data.proofs.filling.fill_segments.Given as goal

abbrev pub invariant-loop-left : goal.invariant-loop-left
invariant-loop-left l = record {
  filled : Fills l.initial.room l.room l.start l.end (joined (drop l.left l.segs));
  inside : l.left ≤ length l.segs;
}

abbrev pub decreases-loop-left : goal.decreases-loop-left
decreases-loop-left l = l.left
