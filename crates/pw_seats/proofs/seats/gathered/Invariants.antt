use Rattle.std.proofs.Common.{◌≡◌, ◌+◌, All, sum_by, vec_len}
use Rattle.pw_turns.specs.Owning.{Owns}
use Rattle.pw_seats.specs.Seats.{parts_of}
use Rattle.pw_seats.proofs.seats.gathered.Given as goal

abbrev pub invariant-loop-other : goal.invariant-loop-other
invariant-loop-other g l = record {
  owns : Owns l.shared.table.shared.table_id l.seat;
  all : All (Owns l.shared.table.shared.table_id) l.seats.items;
  parts : parts_of l.seat + sum_by parts_of l.seats.items ≡ 65536;
}

abbrev pub decreases-loop-other : goal.decreases-loop-other
decreases-loop-other g l = vec_len l.seats
