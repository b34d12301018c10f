use Rattle.acpi_perf.proofs.Writable.{pss_writable, tss_writable}
use Rattle.acpi_perf.proofs.laws.writable_scale.Goals as goal

pub returns-clause-pss : goal.returns-clause-pss
returns-clause-pss c = pss_writable

pub returns-clause-tss : goal.returns-clause-tss
returns-clause-tss c = tss_writable
