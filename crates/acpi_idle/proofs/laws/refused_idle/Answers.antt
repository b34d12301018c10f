use Rattle.acpi_fields.proofs.Inversion.{refused_where_nothing}
use Rattle.acpi_idle.specs.CStates.{csd_of, cst_of}
use Rattle.acpi_idle.specs.Lpis.{lpi_of}
use Rattle.acpi_idle.specs.Meaning.{CsdMeans, CstMeans, LpiMeans}
use Rattle.acpi_idle.proofs.MeantCStates.{csd_means, csd_read, cst_means, cst_read}
use Rattle.acpi_idle.proofs.MeantLpis.{lpi_means, lpi_read}
use Rattle.acpi_idle.proofs.laws.refused_idle.Goals as goal

pub returns-clause-cst : goal.returns-clause-cst
returns-clause-cst c = λ width object. refused_where_nothing (cst_of width object) (CstMeans width object) (cst_means width object) (cst_read width object)

pub returns-clause-csd : goal.returns-clause-csd
returns-clause-csd c = λ width object. refused_where_nothing (csd_of width object) (CsdMeans width object) (csd_means width object) (csd_read width object)

pub returns-clause-lpi : goal.returns-clause-lpi
returns-clause-lpi c = λ width object. refused_where_nothing (lpi_of width object) (LpiMeans width object) (lpi_means width object) (lpi_read width object)
