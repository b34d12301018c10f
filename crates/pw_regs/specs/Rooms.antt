-- Room in a list of operations.
use Rattle.std.specs.Prelude.{◌+◌, ◌≤◌, ℕ, length}
use Rattle.acpi_values.specs.declared.operation.Op.{Op}
use Rattle.pw_base.specs.Room.{Bounded}

-- the list has room for so many operations more
abbrev pub HasRoom : Bounded Op → ℕ → Type 0
HasRoom ops count = length ops.elements + count ≤ ops.capacity
