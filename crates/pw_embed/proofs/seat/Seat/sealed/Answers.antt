use Rattle.std.proofs.Common.{refl}
use Rattle.pw_embed.specs.Seats.{Seals}
use Rattle.pw_embed.proofs.seat.Seat.sealed.Goals as goal

pub returns-in-Ok : goal.returns-in-Ok
unfolding Seals
returns-in-Ok c = rw c.in-Shared.is (c.in-Ok.closed, refl, c.in-Ok.ensures.ended)
