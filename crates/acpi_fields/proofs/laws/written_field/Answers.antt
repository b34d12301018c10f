use Rattle.acpi_fields.proofs.Fields.{back_32, back_64, elements_back, register_back}
use Rattle.acpi_fields.proofs.laws.written_field.Goals as goal

pub returns-clause-number : goal.returns-clause-number
returns-clause-number c = back_32

pub returns-clause-long_number : goal.returns-clause-long_number
returns-clause-long_number c = back_64

pub returns-clause-register : goal.returns-clause-register
returns-clause-register c = register_back

pub returns-clause-package : goal.returns-clause-package
returns-clause-package c = elements_back
