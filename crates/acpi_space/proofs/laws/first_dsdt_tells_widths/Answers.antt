use Rattle.acpi_space.proofs.Widths.{of_first, of_none}
use Rattle.acpi_space.proofs.laws.first_dsdt_tells_widths.Goals as goal

pub returns-clause-first : goal.returns-clause-first
returns-clause-first c = of_first

pub returns-clause-none : goal.returns-clause-none
returns-clause-none c = of_none
