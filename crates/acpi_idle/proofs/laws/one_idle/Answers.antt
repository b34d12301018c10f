use Rattle.acpi_fields.proofs.Inversion.{same_read}
use Rattle.acpi_idle.specs.CStates.{csd_of, cst_of}
use Rattle.acpi_idle.specs.Lpis.{lpi_of}
use Rattle.acpi_idle.proofs.MeantCStates.{csd_read, cst_read}
use Rattle.acpi_idle.proofs.MeantLpis.{lpi_read}
use Rattle.acpi_idle.proofs.laws.one_idle.Goals as goal

pub returns-clause-cst : goal.returns-clause-cst
returns-clause-cst c = λ width object xs ys a b. same_read (cst_of width object) xs ys (cst_read width object xs a) (cst_read width object ys b)

pub returns-clause-csd : goal.returns-clause-csd
returns-clause-csd c = λ width object xs ys a b. same_read (csd_of width object) xs ys (csd_read width object xs a) (csd_read width object ys b)

pub returns-clause-lpi : goal.returns-clause-lpi
returns-clause-lpi c = λ width object x y a b. same_read (lpi_of width object) x y (lpi_read width object x a) (lpi_read width object y b)
