use Rattle.acpi_build.proofs.Rows.{one_idle_table, rows_from}
use Rattle.acpi_build.proofs.laws.idle_rows_are_of_states.Goals as goal

pub returns : goal.returns
returns c = λ lpi cst t. (one_idle_table lpi cst t, rows_from lpi cst t)
