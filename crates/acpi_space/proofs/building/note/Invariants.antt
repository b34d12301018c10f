use Rattle.std.proofs.Common.{◌≡◌, ℕ, ◌-◌, ◌+◌, length}
use Rattle.acpi_space.specs.inner.Standing.{told_at}
use Rattle.acpi_space.proofs.building.note.Given as goal

abbrev pub invariant-loop-index : goal.invariant-loop-index
invariant-loop-index l = (k : ℕ) → told_at l.index.items k ≡ told_at l.initial.index.items k

abbrev pub decreases-loop-index : goal.decreases-loop-index
decreases-loop-index l = l.place + 1 - length l.index.items
