use Rattle.std.proofs.Common.{◌≡◌, ◌++◌, length}
use Rattle.aml_data.specs.Segment.{joined}
use Rattle.pw_text.proofs.index.key_of.Given as goal

abbrev pub invariant-loop-left : goal.invariant-loop-left
invariant-loop-left l = l.key.items ++ joined l.left ≡ joined l.path.segs

abbrev pub decreases-loop-left : goal.decreases-loop-left
decreases-loop-left l = length l.left
