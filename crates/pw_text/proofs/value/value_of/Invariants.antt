use Rattle.std.proofs.Common.{◌≡◌, ◌≤◌, true, length}
use Rattle.std.specs.List.{list_all}
use Rattle.pw_text.proofs.value.value_of.Given as goal
use Rattle.pw_text.specs.Forms.{is_digit, value_from, value_of}

abbrev pub invariant-loop-left : goal.invariant-loop-left
invariant-loop-left l = record {
  so_far : value_from l.value l.left ≡ value_of l.text;
  small : l.value ≤ 4294967295;
  digits : list_all is_digit l.left ≡ true;
}

abbrev pub decreases-loop-left : goal.decreases-loop-left
decreases-loop-left l = length l.left
