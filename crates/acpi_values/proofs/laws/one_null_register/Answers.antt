use Rattle.acpi_values.proofs.Null.{is_from, is_to}
use Rattle.acpi_values.proofs.laws.one_null_register.Goals as goal

pub returns-clause-only : goal.returns-clause-only
returns-clause-only c = λ r. (is_to r, is_from r)
