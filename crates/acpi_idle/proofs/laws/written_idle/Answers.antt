use Rattle.acpi_idle.proofs.Back.{csd_back, cst_back, lpi_back}
use Rattle.acpi_idle.proofs.laws.written_idle.Goals as goal

pub returns-clause-cst : goal.returns-clause-cst
returns-clause-cst c = cst_back

pub returns-clause-csd : goal.returns-clause-csd
returns-clause-csd c = csd_back

pub returns-clause-lpi : goal.returns-clause-lpi
returns-clause-lpi c = lpi_back
