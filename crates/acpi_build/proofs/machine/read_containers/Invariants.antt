use Rattle.std.proofs.Common.{◌≡◌, ◌<◌, ℕ, length, drop}
use Rattle.std.specs.Prelude.{slice_index}
use Rattle.acpi_build.specs.Building.{each}
use Rattle.acpi_build.specs.Finding.{parent_of}
use Rattle.acpi_build.specs.Machine.{container_parts}
use Rattle.acpi_build.specs.inner.Answers.{remarks_in}
use Rattle.acpi_build.proofs.Each.{ahead}
use Rattle.pw_plan.specs.Parts.{container_in}
use Rattle.acpi_build.proofs.machine.read_containers.Given as goal

abbrev pub invariant-loop-index : goal.invariant-loop-index
invariant-loop-index l = record {
  value : ahead l.containers.items (each (container_parts l.space) (drop l.index-index l.order) (remarks_in l.said)) ≡ each (container_parts l.space) l.order (remarks_in l.initial.said);
  count : length l.containers.items ≡ l.index-index;
  parents : (n : ℕ) → n < length l.containers.items → (container_in l.containers.items n).parent ≡ parent_of l.space (slice_index l.order n);
}
