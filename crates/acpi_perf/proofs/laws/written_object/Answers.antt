use Rattle.acpi_fields.specs.Reading.{place}
use Rattle.acpi_fields.proofs.Fields.{back_32}
use Rattle.acpi_perf.proofs.Back.{control_back, domain_back}
use Rattle.acpi_perf.proofs.laws.written_object.Goals as goal

pub returns-clause-control : goal.returns-clause-control
returns-clause-control c = control_back

pub returns-clause-limit : goal.returns-clause-limit
returns-clause-limit c = λ width n lt. back_32 width (place 0 0) n lt

pub returns-clause-domain : goal.returns-clause-domain
returns-clause-domain c = domain_back
