use Rattle.acpi_idle.proofs.MeantCStates.{csd_means, csd_read, cst_means, cst_read}
use Rattle.acpi_idle.proofs.MeantLpis.{lpi_means, lpi_read}
use Rattle.acpi_idle.proofs.laws.meant_idle.Goals as goal

pub returns-clause-cst : goal.returns-clause-cst
returns-clause-cst c = λ width object states. (cst_means width object states, cst_read width object states)

pub returns-clause-csd : goal.returns-clause-csd
returns-clause-csd c = λ width object entries. (csd_means width object entries, csd_read width object entries)

pub returns-clause-lpi : goal.returns-clause-lpi
returns-clause-lpi c = λ width object lpi. (lpi_means width object lpi, lpi_read width object lpi)
