-- The plan of the performance of a machine's processors (ACPI 6.5, 8.4.6.1).
use Rattle.std.specs.Prelude.{◌≡◌, List, map}
use Rattle.acpi_space.specs.Namespace.{Entry}
use Rattle.acpi_build.specs.declared.note.Note.{Note}
use Rattle.acpi_build.specs.Planning.{IsPlanFrom}
use Rattle.pw_plan.specs.declared.parts.CpuParts.{CpuParts}
use Rattle.pw_plan.specs.declared.plan.Plan.{Plan}
use Rattle.pw_cppc.specs.declared.plan.CppcPlan.{CppcPlan}
use Rattle.pw_cppc.specs.Machine.{AreCppcParts}

-- the plan of the performance of a machine's processors, which these objects make
pub record IsPlanOver (entries : List Entry) (P : CppcPlan) : Type 0 where
  pub machine : Plan
  pub notes : List Note
  pub made : IsPlanFrom entries machine notes
  pub paths : P.paths ≡ map (λ (c : CpuParts). c.path) machine.cpus
  pub parts : AreCppcParts entries machine P.cpus
