use Rattle.acpi_perf.proofs.Back.{pss_back, tss_back}
use Rattle.acpi_perf.proofs.laws.written_scale.Goals as goal

pub returns-clause-pss : goal.returns-clause-pss
returns-clause-pss c = pss_back

pub returns-clause-tss : goal.returns-clause-tss
returns-clause-tss c = tss_back
