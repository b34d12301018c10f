use Rattle.std.proofs.Common.{◌≡◌, ◌≤◌, ◌+◌, length, take}
use Rattle.std.specs.Prelude.{vec_capacity}
use Rattle.pw_drive.specs.inner.Replying.{Leaves}
use Rattle.pw_drive.proofs.replying.in_order.Given as goal

abbrev pub invariant-loop-left : goal.invariant-loop-left
invariant-loop-left l = record {
  leaves : Leaves l.sealed.plan l.entries (take l.left l.entries) l.each.items l.all.items;
  size : length l.each.items ≡ length l.fn.each.items;
  count : length l.all.items + l.left ≤ length l.entries;
  room : vec_capacity l.all ≡ vec_capacity l.fn.all;
}

abbrev pub decreases-loop-left : goal.decreases-loop-left
decreases-loop-left l = l.left
