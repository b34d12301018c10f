use Rattle.std.proofs.Common.{arith}
use Rattle.aml_data.specs.declared.data.Data.TheVariants.{Int}
use Rattle.acpi_fields.specs.Writing.{register_object}
use Rattle.acpi_fields.proofs.Writable.{bounded_number, bounded_register, bounded_writable}
use Rattle.acpi_fields.proofs.laws.writable_field.Goals as goal

pub returns-clause-number : goal.returns-clause-number
returns-clause-number c = λ n lt. bounded_writable 0 9 (Int n) (omega arith) (omega arith) (bounded_number n lt)

pub returns-clause-register : goal.returns-clause-register
returns-clause-register c = λ r. bounded_writable 0 33 (register_object r) (omega arith) (omega arith) (bounded_register r)
