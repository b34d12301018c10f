use Rattle.std.proofs.Common.{refl}
use Rattle.pw_handles.specs.Seated.{OfSplit}
use Rattle.pw_handles.proofs.seats.split.Goals as goal

pub returns-in-Seat : goal.returns-in-Seat
unfolding OfSplit
returns-in-Seat c = rw c.in-Seat.is (c.split.new.self, refl, c.split.ensures)
