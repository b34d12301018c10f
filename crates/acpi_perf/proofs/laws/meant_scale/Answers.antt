use Rattle.acpi_perf.proofs.Meant.{pss_means, pss_read, tss_means, tss_read}
use Rattle.acpi_perf.proofs.laws.meant_scale.Goals as goal

pub returns-clause-pss : goal.returns-clause-pss
returns-clause-pss c = λ width object states. (pss_means width object states, pss_read width object states)

pub returns-clause-tss : goal.returns-clause-tss
returns-clause-tss c = λ width object states. (tss_means width object states, tss_read width object states)
