use Rattle.acpi_build.proofs.Innermost.{parent_none, parent_some}
use Rattle.acpi_build.proofs.laws.parents_are_innermost.Goals as goal

pub returns-clause-some : goal.returns-clause-some
returns-clause-some c = parent_some

pub returns-clause-none : goal.returns-clause-none
returns-clause-none c = parent_none
