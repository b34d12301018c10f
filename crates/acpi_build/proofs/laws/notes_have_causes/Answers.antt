use Rattle.acpi_build.proofs.Causes.{notes_caused, notes_of_causes}
use Rattle.acpi_build.proofs.laws.notes_have_causes.Goals as goal

pub returns-clause-caused : goal.returns-clause-caused
returns-clause-caused c = notes_caused

pub returns-clause-each_once : goal.returns-clause-each_once
returns-clause-each_once c = notes_of_causes
