use Rattle.acpi_fields.proofs.Inversion.{same_read}
use Rattle.acpi_cpc.specs.Cpcs.{cpc_of}
use Rattle.acpi_cpc.proofs.Meant.{cpc_read}
use Rattle.acpi_cpc.proofs.laws.one_cpc.Goals as goal

pub returns : goal.returns
returns c = λ width object x y a b. same_read (cpc_of width object) x y (cpc_read width object x a) (cpc_read width object y b)
