-- Why blocks make no plan, from their parts.
use Rattle.std.proofs.Common.{ℕ, List, refl}
use Rattle.aml_block.specs.declared.block.Block.{Block as block}
use Rattle.pw_embed.specs.declared.faults.FaultNumbers.{FaultNumbers}
use Rattle.pw_embed.specs.declared.machine.Machine.TheVariants.{Blocks}
use Rattle.pw_embed.specs.declared.status.Status.{Status}
use Rattle.pw_embed.specs.declared.status.Status.TheVariants as statuses
use Rattle.pw_embed.specs.Blocks.{AreSpelled, Refused, RefusedBy}
use Rattle.pw_embed.specs.Machines.{Planning}

-- what refuses blocks refuses the bytes that spell them
pub refused : (sources : List (List ℕ)) (blocks : List block) (fault : FaultNumbers) (room : List ℕ) (fault' : FaultNumbers) (room' : List ℕ) (s : Status)
    → AreSpelled sources blocks → RefusedBy blocks fault room fault' room' s → Refused sources fault room fault' room' s
unfolding Refused RefusedBy
refused sources blocks fault room fault' room' statuses.NoMemory spelled r = r
refused sources blocks fault room fault' room' s spelled r = (blocks, spelled, r)

-- blocks that are refused stay
pub stays : (b : List (List ℕ)) (fault : FaultNumbers) (room : List ℕ) (fault' : FaultNumbers) (room' : List ℕ) (s : Status)
    → Refused b fault room fault' room' s → Planning b fault room (Blocks b) fault' room' s
unfolding Planning Refused RefusedBy
stays b fault room fault' room' statuses.Done r = absurd r.2
stays b fault room fault' room' s r = (refl, r)
