use Rattle.std.proofs.Common.{refl}
use Rattle.pw_embed.specs.Machines.{Starts}
use Rattle.pw_embed.proofs.machine.Machine.with_coordinator.Goals as goal

pub returns-in-Ok : goal.returns-in-Ok
unfolding Starts
returns-in-Ok c = rw c.in-Planned.is
    (_, refl, record { plan = refl; notes = refl; state = c.in-Ok.ensures.state; ops = c.in-Ok.ensures.ops })
