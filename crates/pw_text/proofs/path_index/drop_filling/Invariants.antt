use Rattle.std.proofs.Common.{◌≤◌, length}
use Rattle.pw_text.proofs.path_index.drop_filling.Given as goal

abbrev pub invariant-loop-left : goal.invariant-loop-left
invariant-loop-left l = l.left ≤ length l.text.items

abbrev pub decreases-loop-left : goal.decreases-loop-left
decreases-loop-left l = l.left
