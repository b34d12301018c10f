use Rattle.std.proofs.Common.{◌≡◌, ◌+◌, [], ℕ, drop}
use Rattle.acpi_build.specs.inner.Fitting.{FitEntries}
use Rattle.acpi_build.specs.Machine.{kept_from}
use Rattle.std.specs.List.{list_any}
use Rattle.std.specs.BTreeSet.{contains}
use Rattle.pw_plan.specs.Parts.{is_entry}
use Rattle.acpi_build.proofs.Keeping.{pair_cmp}
use Rattle.acpi_build.proofs.idle.kept.Given as goal

abbrev pub invariant-loop-entry : goal.invariant-loop-entry
invariant-loop-entry l = record {
  value : kept_from l.states (l.outer + 1) l.kept.items (drop l.entry-index l.entries) ≡ kept_from l.states 1 [] l.entries;
  place : l.outer ≡ l.entry-index;
  seen : (domain index : ℕ) → contains pair_cmp l.seen (domain, index) ≡ list_any (is_entry domain index) l.kept.items;
  fit : FitEntries l.states l.kept.items;
}
