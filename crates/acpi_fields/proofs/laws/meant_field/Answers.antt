use Rattle.acpi_fields.proofs.DependencyMeaning.{dependency_means, dependency_read}
use Rattle.acpi_fields.proofs.Inversion.{elements_means, elements_read, integer_means, integer_read, means_32, means_64, read_32, read_64, register_means, register_read, text_means, text_read}
use Rattle.acpi_fields.proofs.Templates.{template_means, template_read}
use Rattle.acpi_fields.proofs.laws.meant_field.Goals as goal

pub returns-clause-number : goal.returns-clause-number
returns-clause-number c = λ width at object n. (means_32 width at object n, read_32 width at object n)

pub returns-clause-long_number : goal.returns-clause-long_number
returns-clause-long_number c = λ width at object n. (means_64 width at object n, read_64 width at object n)

pub returns-clause-register : goal.returns-clause-register
returns-clause-register c = λ at object r. (register_means at object r, register_read at object r)

pub returns-clause-text : goal.returns-clause-text
returns-clause-text c = λ at object text. (text_means at object text, text_read at object text)

pub returns-clause-elements : goal.returns-clause-elements
returns-clause-elements c = λ at object elements. (elements_means at object elements, elements_read at object elements)

pub returns-clause-dependency : goal.returns-clause-dependency
returns-clause-dependency c = λ width count k fields d. (dependency_means width count k fields d, dependency_read width count k fields d)

pub returns-clause-template : goal.returns-clause-template
returns-clause-template c = λ bytes r. (template_means bytes r, template_read bytes r)

pub returns-clause-integer : goal.returns-clause-integer
returns-clause-integer c = λ width object n. (integer_means width object n, integer_read width object n)
