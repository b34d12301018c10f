use Rattle.std.proofs.Common.{◌≡◌, ◌+◌, ◌++◌, length, map, take}
use Rattle.acpi_fields.specs.Rows.{MakesObject}
use Rattle.acpi_fields.proofs.rows.package_of.Given as goal

abbrev pub invariant-loop-row : goal.invariant-loop-row
invariant-loop-row g l = record {
  count : length l.elements.items ≡ length l.fn.front.items + l.row-index;
  objects : (object_of : _) → MakesObject (goal.F-post g l.make) object_of
      → l.elements.items ≡ l.fn.front.items ++ map object_of (take l.row-index l.rows);
}
