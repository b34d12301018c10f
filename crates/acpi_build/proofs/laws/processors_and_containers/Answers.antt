use Rattle.acpi_build.proofs.Parents.{containers_in_order, processors_rise}
use Rattle.acpi_build.proofs.Who.{containers_are, processors_are}
use Rattle.acpi_build.proofs.laws.processors_and_containers.Goals as goal

pub returns-clause-processors : goal.returns-clause-processors
returns-clause-processors c = processors_are

pub returns-clause-containers : goal.returns-clause-containers
returns-clause-containers c = containers_are

pub returns-clause-in_order : goal.returns-clause-in_order
returns-clause-in_order c = processors_rise

pub returns-clause-outer_first : goal.returns-clause-outer_first
returns-clause-outer_first c = containers_in_order
