use Rattle.std.proofs.Common.{◌≡◌, length}
use Rattle.std.specs.List.{list_all}
use Rattle.pw_text.proofs.value.is_number.Given as goal
use Rattle.pw_text.specs.Forms.{is_digit}

abbrev pub invariant-loop-left : goal.invariant-loop-left
invariant-loop-left l = list_all is_digit l.left ≡ list_all is_digit l.text

abbrev pub decreases-loop-left : goal.decreases-loop-left
decreases-loop-left l = length l.left
