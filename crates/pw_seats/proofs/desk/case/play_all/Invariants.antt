use Rattle.pw_seats.specs.DeskSeats.{AreSeats}
use Rattle.pw_seats.proofs.desk.case.play_all.Given as goal

abbrev pub invariant-loop-line : goal.invariant-loop-line
invariant-loop-line g l = AreSeats l.desk.table.shared.table_id l.seats.items 65536
