use Rattle.std.proofs.Common.{refl}
use Rattle.pw_embed.specs.Endless.{JoinsSeats}
use Rattle.pw_embed.proofs.endless.Endless.join.Goals as goal

pub returns-in-Resting-Resting : goal.returns-in-Resting-Resting
unfolding JoinsSeats
returns-in-Resting-Resting c = rw (c.in-Resting-Resting.is-0, c.in-Resting-Resting.is-1) (c.join.result, refl, c.join.ensures)
