use Rattle.acpi_fields.proofs.Inversion.{refused_where_nothing}
use Rattle.acpi_cpc.specs.Cpcs.{cpc_of}
use Rattle.acpi_cpc.specs.Meaning.{CpcMeans}
use Rattle.acpi_cpc.proofs.Meant.{cpc_means, cpc_read}
use Rattle.acpi_cpc.proofs.laws.refused_cpc.Goals as goal

pub returns : goal.returns
returns c = λ width object. refused_where_nothing (cpc_of width object) (CpcMeans width object) (cpc_means width object) (cpc_read width object)
