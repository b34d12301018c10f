use Rattle.std.proofs.Common.{refl}
use Rattle.pw_embed.specs.Seats.{AtShared}
use Rattle.pw_embed.proofs.seat.Seat.ask.Goals as goal

pub returns-in-Shared : goal.returns-in-Shared
unfolding AtShared
returns-in-Shared c = rw c.in-Shared.is (c.ask.new.self, refl, c.ask.ensures)
