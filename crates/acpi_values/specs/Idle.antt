-- Tables of idle states.
use Rattle.std.specs.Prelude.{List, []}
use Rattle.acpi_values.specs.declared.idle.IdleKind.{IdleKind}
use Rattle.acpi_values.specs.declared.idle.IdleKind.TheVariants.{Lpi, Cst, Absent}
use Rattle.acpi_values.specs.declared.idle.IdleRow.{IdleRow}
use Rattle.acpi_values.specs.declared.idle.IdleTable.{IdleTable}

-- the rows that a table of this kind has
abbrev pub rows_by : IdleKind → List IdleRow → List IdleRow
rows_by Lpi rows = rows
rows_by Cst rows = rows
rows_by Absent rows = []

-- the rows of the states of a table: an absent one has none
abbrev pub rows_of : IdleTable → List IdleRow
rows_of t = rows_by t.kind t.rows
