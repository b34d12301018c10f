use Rattle.std.proofs.Common.{◌≡◌}
use Rattle.pw_turns.specs.Owning.{Owns}
use Rattle.pw_seats.specs.Seats.{parts_of}
use Rattle.pw_seats.proofs.ask.rounds.Given as goal

abbrev pub invariant-loop-round : goal.invariant-loop-round
invariant-loop-round g l = Owns l.shared.table.shared.table_id l.seat × (parts_of l.seat ≡ parts_of l.initial.seat)
