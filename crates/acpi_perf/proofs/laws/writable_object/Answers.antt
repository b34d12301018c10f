use Rattle.std.proofs.Common.{arith}
use Rattle.aml_data.specs.declared.data.Data.TheVariants.{Int}
use Rattle.acpi_fields.proofs.Writable.{bounded_32, bounded_writable}
use Rattle.acpi_perf.proofs.Writable.{control_writable, domain_writable}
use Rattle.acpi_perf.proofs.laws.writable_object.Goals as goal

pub returns-clause-control : goal.returns-clause-control
returns-clause-control c = control_writable

pub returns-clause-limit : goal.returns-clause-limit
returns-clause-limit c = λ n lt. bounded_writable 0 9 (Int n) (omega arith) (omega arith) (bounded_32 n lt)

pub returns-clause-domain : goal.returns-clause-domain
returns-clause-domain c = domain_writable
