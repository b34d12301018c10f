use Rattle.std.proofs.Common.{Err, Ok, refl}
use Rattle.pw_handles.specs.Endless.{JoinsKept}
use Rattle.pw_handles.proofs.endless.joined.Goals as goal

pub returns-in-Ok : goal.returns-in-Ok
unfolding JoinsKept
returns-in-Ok c = rw (c.in-Endless-Endless.is-0, c.in-Endless-Endless.is-1) (Ok c.in-Ok.seat, (rw c.in-Ok.is at c.join.ensures), (refl, refl))

pub returns-in-Err : goal.returns-in-Err
unfolding JoinsKept
returns-in-Err c =
    rw (c.in-Endless-Endless.is-0, c.in-Endless-Endless.is-1)
    (Err (c.in-Err.first, c.in-Err.second), (rw c.in-Err.is at c.join.ensures), (refl, refl, refl))
