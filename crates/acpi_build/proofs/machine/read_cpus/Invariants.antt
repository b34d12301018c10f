use Rattle.std.proofs.Common.{◌≡◌, ◌<◌, ℕ, length, drop}
use Rattle.std.specs.Prelude.{slice_index}
use Rattle.acpi_space.specs.Lookup.{path_in}
use Rattle.acpi_build.specs.Building.{each}
use Rattle.acpi_build.specs.Finding.{parent_of}
use Rattle.acpi_build.specs.inner.Fitting.{FitsAlone}
use Rattle.acpi_build.specs.Machine.{cpu_parts}
use Rattle.acpi_build.specs.inner.Answers.{remarks_in}
use Rattle.acpi_build.proofs.Each.{ahead}
use Rattle.pw_plan.specs.Parts.{cpu_in}
use Rattle.acpi_build.proofs.machine.read_cpus.Given as goal

abbrev pub invariant-loop-index : goal.invariant-loop-index
invariant-loop-index l = record {
  value : ahead l.cpus.items (each (cpu_parts l.space) (drop l.index-index l.order) (remarks_in l.said)) ≡ each (cpu_parts l.space) l.order (remarks_in l.initial.said);
  count : length l.cpus.items ≡ l.index-index;
  paths : (p : ℕ) → p < length l.cpus.items → (cpu_in l.cpus.items p).path ≡ record { segs = path_in l.space (slice_index l.order p) };
  parents : (p : ℕ) → p < length l.cpus.items → (cpu_in l.cpus.items p).parent ≡ parent_of l.space (slice_index l.order p);
  fit : (p : ℕ) → p < length l.cpus.items → FitsAlone (cpu_in l.cpus.items p);
}
