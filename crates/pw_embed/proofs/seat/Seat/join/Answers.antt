use Rattle.std.proofs.Common.{refl}
use Rattle.pw_embed.specs.Seats.{JoinsSeats}
use Rattle.pw_embed.proofs.seat.Seat.join.Goals as goal

pub returns-in-Shared-Shared : goal.returns-in-Shared-Shared
unfolding JoinsSeats
returns-in-Shared-Shared c = rw (c.in-Shared-Shared.is-0, c.in-Shared-Shared.is-1) (c.join.result, refl, c.join.ensures)
