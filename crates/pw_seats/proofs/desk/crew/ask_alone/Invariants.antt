use Rattle.std.proofs.Common.{◌≡◌}
use Rattle.pw_cppc_desk.specs.Owning.{Owns}
use Rattle.pw_seats.specs.DeskSeats.{parts_of}
use Rattle.pw_seats.proofs.desk.crew.ask_alone.Given as goal

abbrev pub invariant-loop-round : goal.invariant-loop-round
invariant-loop-round g l = Owns l.desk.table.shared.table_id l.seat × (parts_of l.seat ≡ parts_of l.initial.seat)
