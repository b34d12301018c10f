use Rattle.acpi_build.proofs.Countability.{blocks_countable}
use Rattle.acpi_build.proofs.laws.blocks_are_countable.Goals as goal

pub returns : goal.returns
returns c = blocks_countable
