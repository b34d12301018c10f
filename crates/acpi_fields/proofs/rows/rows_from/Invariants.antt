use Rattle.std.proofs.Common.{◌≡◌, ◌+◌, drop}
use Rattle.acpi_fields.specs.Reading.{rows_from}
use Rattle.acpi_fields.specs.Rows.{ReadsRow}
use Rattle.acpi_fields.proofs.RowLists.{ahead}
use Rattle.acpi_fields.proofs.rows.rows_from.Given as goal

abbrev pub invariant-loop-object : goal.invariant-loop-object
invariant-loop-object g l = record {
  place : l.outer ≡ l.before + l.object-index;
  rows : (row : _) → ReadsRow (goal.F-post g l.read) row
      → ahead l.rows.items (rows_from row (l.outer + 1) (drop l.object-index l.objects)) ≡ rows_from row (l.before + 1) l.objects;
}
