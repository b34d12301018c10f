use Rattle.std.proofs.Common.{◌≡◌}
use Rattle.std.proofs.Common.{drop}
use Rattle.acpi_space.specs.Namespace.{dsdt_width}
use Rattle.acpi_space.proofs.blocks.dsdt_width.Given as goal

abbrev pub invariant-loop-block : goal.invariant-loop-block
invariant-loop-block l = dsdt_width l.blocks ≡ dsdt_width (drop l.block-index l.blocks)
