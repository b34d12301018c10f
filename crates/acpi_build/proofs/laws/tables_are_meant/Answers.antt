use Rattle.acpi_build.proofs.Causes.{tables_of_containers, tables_of_cpus}
use Rattle.acpi_build.proofs.laws.tables_are_meant.Goals as goal

pub returns-clause-containers : goal.returns-clause-containers
returns-clause-containers c = tables_of_containers

pub returns-clause-processors : goal.returns-clause-processors
returns-clause-processors c = tables_of_cpus
