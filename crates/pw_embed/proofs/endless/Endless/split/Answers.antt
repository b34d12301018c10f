use Rattle.std.proofs.Common.{Err, Ok, refl}
use Rattle.pw_embed.specs.Endless.{SplitsOff}
use Rattle.pw_embed.proofs.endless.Endless.split.Goals as goal

pub returns-in-Ok : goal.returns-in-Ok
unfolding SplitsOff
returns-in-Ok c = rw c.in-Resting.is (c.split.new.self, refl, (Ok c.in-Ok.other, (rw c.in-Ok.is at c.split.ensures), refl))

pub returns-in-Err : goal.returns-in-Err
unfolding SplitsOff
returns-in-Err c = rw c.in-Resting.is (c.split.new.self, refl, (Err c.in-Err.status, (rw c.in-Err.is at c.split.ensures), refl))
