use Rattle.std.proofs.Common.{◌≡◌, length}
use Rattle.std.specs.Prelude.{vec_capacity}
use Rattle.pw_drive.specs.inner.Replying.{AreEmpty, HaveRoom}
use Rattle.pw_drive.proofs.replying.rooms.Given as goal

abbrev pub invariant-loop-requests : goal.invariant-loop-requests
invariant-loop-requests l = record {
  empty : AreEmpty l.requests-index l.each.items;
  spare : HaveRoom l.requests-index l.lists l.each.items;
  room : vec_capacity l.each ≡ length l.lists;
}
