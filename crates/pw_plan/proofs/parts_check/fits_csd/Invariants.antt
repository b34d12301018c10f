use Rattle.std.proofs.Common.{◌≡◌, ◌<◌, ℕ, false, length}
use Rattle.acpi_values.specs.declared.idle.IdleKind.TheVariants.{Cst}
use Rattle.pw_plan.specs.Parts.{entry_in, is_entry}
use Rattle.pw_plan.specs.inner.DomainList.{is_before}
use Rattle.pw_plan.specs.inner.EntryTables.{name_from}
use Rattle.pw_plan.proofs.parts_check.fits_csd.Given as goal

abbrev pub invariant-loop-number : goal.invariant-loop-number
invariant-loop-number l = record {
  kind : (k : ℕ) → k < l.number → l.cpu.idle.kind ≡ Cst;
  state : (k : ℕ) → k < l.number → (entry_in l.cpu.csd k).index < length l.cpu.idle.rows;
  once : (j k : ℕ) → j < k → k < l.number → is_entry (entry_in l.cpu.csd j).domain (entry_in l.cpu.csd j).index (entry_in l.cpu.csd k) ≡ false;
  greatest : (k : ℕ) → k < l.number → is_before l.greatest (name_from (entry_in l.cpu.csd k)) ≡ false;
}
