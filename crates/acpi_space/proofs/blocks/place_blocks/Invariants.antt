use Rattle.std.proofs.Common.{[], take, map}
use Rattle.acpi_space.specs.Steps.{in_order}
use Rattle.acpi_space.specs.Namespace.{block_turn}
use Rattle.acpi_space.specs.inner.Standing.{StandsIn}
use Rattle.acpi_space.proofs.blocks.place_blocks.Given as goal

abbrev pub invariant-loop-block : goal.invariant-loop-block
invariant-loop-block l = StandsIn l.building (in_order (map (block_turn l.blocks) (take l.block-index l.blocks)) [] [])
