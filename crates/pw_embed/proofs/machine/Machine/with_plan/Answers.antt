use Rattle.std.proofs.Common.{refl}
use Rattle.pw_embed.specs.Machines.{AtBlocks, Planning}
use Rattle.pw_embed.proofs.Refusing.{stays}
use Rattle.pw_embed.proofs.machine.Machine.with_plan.Goals as goal

pub returns-in-Ok : goal.returns-in-Ok
unfolding AtBlocks Planning
returns-in-Ok c = rw c.in-Blocks.is
    (_, refl, refl, c.in-Ok.ensures.made, c.in-Ok.ensures.same.0, c.in-Ok.ensures.same.1)

pub returns-in-Err : goal.returns-in-Err
unfolding AtBlocks
returns-in-Err c = rw c.in-Blocks.is (stays _ _ _ _ _ _ c.in-Err.ensures.refused)
