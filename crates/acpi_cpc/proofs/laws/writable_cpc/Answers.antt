use Rattle.acpi_cpc.proofs.Writable.{cpc_writable}
use Rattle.acpi_cpc.proofs.laws.writable_cpc.Goals as goal

pub returns : goal.returns
returns c = cpc_writable
