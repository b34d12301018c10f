use Rattle.acpi_idle.proofs.Writable.{csd_writable, cst_writable, lpi_writable}
use Rattle.acpi_idle.proofs.laws.writable_idle.Goals as goal

pub returns-clause-cst : goal.returns-clause-cst
returns-clause-cst c = cst_writable

pub returns-clause-csd : goal.returns-clause-csd
returns-clause-csd c = csd_writable

pub returns-clause-lpi : goal.returns-clause-lpi
returns-clause-lpi c = lpi_writable
