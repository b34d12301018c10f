use Rattle.std.proofs.Common.{◌≡◌, ◌⊎◌, ◌≤◌, ◌<◌, ℕ, length, get_or}
use Rattle.std.specs.List.{Any}
use Rattle.acpi_space.specs.Namespace.{Entry}
use Rattle.acpi_space.proofs.space.Space.longest_path.Given as goal

abbrev pub invariant-loop-placed : goal.invariant-loop-placed
invariant-loop-placed l = record {
  bound : (k : ℕ) (d : Entry) → k < l.placed-index → length (get_or l.self k d).path ≤ l.longest;
  attained : (l.longest ≡ 0) ⊎ Any (λ (e : Entry). length e.path ≡ l.longest) l.self;
}
