use Rattle.std.proofs.Common.{◌≡◌, ◌+◌, All, sum_by, vec_len}
use Rattle.pw_cppc_desk.specs.Owning.{Owns}
use Rattle.pw_seats.specs.DeskSeats.{parts_of}
use Rattle.pw_seats.proofs.desk.seats.gathered.Given as goal

abbrev pub invariant-loop-other : goal.invariant-loop-other
invariant-loop-other l = record {
  owns : Owns l.desk.table.shared.table_id l.seat;
  all : All (Owns l.desk.table.shared.table_id) l.seats.items;
  parts : parts_of l.seat + sum_by parts_of l.seats.items ≡ 65536;
}

abbrev pub decreases-loop-other : goal.decreases-loop-other
decreases-loop-other l = vec_len l.seats
