use Rattle.acpi_fields.specs.Reading.{place}
use Rattle.acpi_fields.proofs.Inversion.{means_32, read_32, refused_where_nothing}
use Rattle.acpi_perf.specs.Meaning.{ControlMeans, DomainMeans, LimitMeans, PssMeans, TssMeans}
use Rattle.acpi_perf.specs.Objects.{control_of, domain_of, limit_of}
use Rattle.acpi_perf.specs.Scales.{pss_of, tss_of}
use Rattle.acpi_perf.proofs.Meant.{control_means, control_read, domain_means, domain_read, pss_means, pss_read, tss_means, tss_read}
use Rattle.acpi_perf.proofs.laws.refused_meaning.Goals as goal

pub returns-clause-pss : goal.returns-clause-pss
returns-clause-pss c = λ width object. refused_where_nothing (pss_of width object) (PssMeans width object) (pss_means width object) (pss_read width object)

pub returns-clause-tss : goal.returns-clause-tss
returns-clause-tss c = λ width object. refused_where_nothing (tss_of width object) (TssMeans width object) (tss_means width object) (tss_read width object)

pub returns-clause-control : goal.returns-clause-control
returns-clause-control c = λ object. refused_where_nothing (control_of object) (ControlMeans object) (control_means object) (control_read object)

pub returns-clause-limit : goal.returns-clause-limit
returns-clause-limit c = λ width object.
    refused_where_nothing (limit_of width object) (LimitMeans width object) (means_32 width (place 0 0) object) (read_32 width (place 0 0) object)

pub returns-clause-domain : goal.returns-clause-domain
returns-clause-domain c = λ width object. refused_where_nothing (domain_of width object) (DomainMeans width object) (domain_means width object) (domain_read width object)
