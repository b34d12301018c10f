use Rattle.acpi_fields.specs.Reading.{elements_at, place, register_at}
use Rattle.acpi_fields.proofs.Inversion.{elements_read, one_number, register_read, same_read}
use Rattle.acpi_fields.proofs.laws.one_field.Goals as goal

pub returns-clause-register : goal.returns-clause-register
returns-clause-register c = λ object r s a b. same_read (register_at (place 0 0) object) r s (register_read (place 0 0) object r a) (register_read (place 0 0) object s b)

pub returns-clause-elements : goal.returns-clause-elements
returns-clause-elements c = λ object xs ys a b. same_read (elements_at (place 0 0) object) xs ys (elements_read (place 0 0) object xs a) (elements_read (place 0 0) object ys b)

pub returns-clause-number : goal.returns-clause-number
returns-clause-number c = one_number
