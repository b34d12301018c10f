use Rattle.std.proofs.Common.{◌≡◌, take}
use Rattle.acpi_space.specs.inner.Standing.{over_at}
use Rattle.acpi_space.proofs.passed.with_paths.Given as goal

abbrev pub invariant-loop-term : goal.invariant-loop-term
invariant-loop-term l = l.over.items ≡ over_at l.tree (take l.term-index l.passed)
