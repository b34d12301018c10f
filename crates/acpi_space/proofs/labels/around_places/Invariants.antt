use Rattle.std.proofs.Common.{◌≡◌, ◌<◌, [], length, get_or, ℕ, None}
use Rattle.acpi_space.specs.Lookup.{label_around}
use Rattle.acpi_space.specs.inner.Standing.{entries_at}
use Rattle.acpi_space.proofs.labels.around_places.Given as goal

abbrev pub invariant-loop-at : goal.invariant-loop-at
invariant-loop-at l = record {
  many : length l.around.items ≡ l.at;
  each : (q : ℕ) → q < l.at → get_or l.around.items q None ≡ label_around (entries_at l.tree l.placed) l.labels (get_or l.tree q []);
}
