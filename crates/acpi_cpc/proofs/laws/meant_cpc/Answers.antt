use Rattle.acpi_cpc.proofs.Meant.{cpc_means, cpc_read}
use Rattle.acpi_cpc.proofs.laws.meant_cpc.Goals as goal

pub returns : goal.returns
returns c = λ width object cpc. (cpc_means width object cpc, cpc_read width object cpc)
