use Rattle.acpi_values.proofs.Null.{taken_from, taken_to}
use Rattle.acpi_build.proofs.laws.control_registers_are_not_null.Goals as goal

pub returns : goal.returns
returns c = λ pair r. (taken_to pair.control r, taken_from pair.control r)
