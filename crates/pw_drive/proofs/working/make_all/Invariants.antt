use Rattle.std.proofs.Common.{◌≡◌, take, length}
use Rattle.std.specs.Prelude.{vec_capacity}
use Rattle.pw_rule.specs.Rule.{given_of}
use Rattle.pw_turns.specs.Owning.{Owns}
use Rattle.pw_turns.specs.Views.{view_in}
use Rattle.pw_books.specs.Workers.{HasAsked}
use Rattle.pw_drive.proofs.working.make_all.Given as goal
use Rattle.pw_drive.specs.inner.Replying.{KeepsReplies}
use Rattle.pw_drive.specs.inner.Telling.{telling}

abbrev pub invariant-loop-request : goal.invariant-loop-request
invariant-loop-request g l =
    let v = view_in l.seat.badge.views in
    record {
      owns : Owns l.coordinator.table.shared.table_id l.seat;
      parts : v.parts ≡ (view_in l.initial.seat.badge.views).parts;
      asked : HasAsked telling (take l.request-index l.requests) v.number v.book;
      replied : KeepsReplies (given_of g.R.Registers l.coordinator.table.shared.key).plan l.replies.items v;
      count : length l.replies.items ≡ l.request-index;
      room : vec_capacity l.replies ≡ vec_capacity l.initial.replies;
    }
