use Rattle.std.proofs.Common.{◌≡◌, ◌≤◌, ◌+◌, [], length}
use Rattle.std.specs.Prelude.{vec_capacity}
use Rattle.pw_turns.specs.Owning.{Owns}
use Rattle.pw_turns.specs.Views.{view_in}
use Rattle.pw_drive.specs.inner.Replying.{AreEmpty, HaveRoom}
use Rattle.pw_drive.specs.inner.Seated.{AreSeated}
use Rattle.pw_drive.specs.inner.Workers.{holding}
use Rattle.pw_books.proofs.Places.{AreAbove, AreLeft, AllSeatedFrom}
use Rattle.pw_drive.proofs.seating.seat_all.Given as goal

abbrev pub invariant-loop-requests : goal.invariant-loop-requests
invariant-loop-requests g l =
    let ws = l.workers.items in
    let left = l.lists.items in
    let all = l.fn.lists.items in
    record {
      owns : Owns l.coordinator.table.shared.table_id l.first;
      book : (view_in l.first.badge.views).book ≡ (view_in l.initial.first.badge.views).book;
      parts : (view_in l.first.badge.views).parts + length ws ≡ 65536;
      seated : AreSeated l.coordinator.table.shared.table_id all ws;
      above : AreAbove holding (length left) ws;
      served : AllSeatedFrom holding (length left) all ws;
      begins : AreLeft left all;
      few : length ws + length left ≤ length all;
      room : vec_capacity l.workers ≡ vec_capacity l.initial.workers;
      unseen : (view_in l.first.badge.views).seen ≡ [];
      empty : AreEmpty (length all) l.each.items;
      spare : HaveRoom (length left) all l.each.items;
    }

abbrev pub decreases-loop-requests : goal.decreases-loop-requests
decreases-loop-requests g l = length l.lists.items
