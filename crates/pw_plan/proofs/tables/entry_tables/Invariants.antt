use Rattle.std.proofs.Common.{◌≡◌, ◌<◌, ℕ, [], length}
use Rattle.std.specs.Prelude.{slice_index_or}
use Rattle.pw_plan.specs.Parts.{cpu_in}
use Rattle.pw_plan.specs.inner.EntryTables.{IsTable}
use Rattle.pw_plan.proofs.tables.entry_tables.Given as goal

abbrev pub invariant-loop-cpu : goal.invariant-loop-cpu
invariant-loop-cpu l = record {
  lists : length l.tables.items ≡ l.cpu;
  each : (p : ℕ) → p < l.cpu → IsTable (cpu_in l.cpus p).csd (slice_index_or l.tables.items p []);
}
