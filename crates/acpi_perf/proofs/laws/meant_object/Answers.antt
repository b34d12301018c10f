use Rattle.acpi_fields.specs.Reading.{place}
use Rattle.acpi_fields.proofs.Inversion.{means_32, read_32}
use Rattle.acpi_perf.proofs.Meant.{control_means, control_read, domain_means, domain_read}
use Rattle.acpi_perf.proofs.laws.meant_object.Goals as goal

pub returns-clause-control : goal.returns-clause-control
returns-clause-control c = λ object pair. (control_means object pair, control_read object pair)

pub returns-clause-limit : goal.returns-clause-limit
returns-clause-limit c = λ width object n. (means_32 width (place 0 0) object n, read_32 width (place 0 0) object n)

pub returns-clause-domain : goal.returns-clause-domain
returns-clause-domain c = λ width object d. (domain_means width object d, domain_read width object d)
