use Rattle.acpi_cpc.proofs.Back.{cpc_back}
use Rattle.acpi_cpc.proofs.laws.written_cpc.Goals as goal

pub returns : goal.returns
returns c = cpc_back
