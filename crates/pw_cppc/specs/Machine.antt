-- What objects say of the continuous performance of a plan's processors (ACPI 6.5, 8.4.6.1 and 8.4.5.5).
use Rattle.std.specs.Prelude.{◌≡◌, ◌<◌, ◌++◌, ◌∷◌, [], ℕ, List, codes, length}
use Rattle.acpi_space.specs.Namespace.{Entry}
use Rattle.acpi_space.specs.Places.{Place}
use Rattle.acpi_perf.specs.Meaning.{DomainMeans}
use Rattle.acpi_build.specs.Sources.{IsTable}
use Rattle.pw_plan.specs.declared.parts.CpuParts.{CpuParts}
use Rattle.pw_plan.specs.declared.plan.Plan.{Plan}
use Rattle.pw_plan.specs.Places.{cpu_at}
use Rattle.pw_cppc.specs.declared.parts.CppcParts.{CppcParts}
use Rattle.pw_cppc.specs.Parts.{parts_in}

-- the place of `_PSD` right below a processor
abbrev pub dependency_place : CpuParts → Place
dependency_place c = c.path.segs ++ codes "_PSD" ∷ []

-- The parts of a processor: `_CPC` as the plan has it, and what a data object `_PSD` means, whether it has performance
-- states or not; none where no data object stands there.
pub record IsCppcOf (entries : List Entry) (c : CpuParts) (parts : CppcParts) : Type 0 where
  pub cpc : parts.cpc ≡ c.cpc
  pub dependency : IsTable DomainMeans entries (dependency_place c) parts.dependency

-- These are the parts of the plan's processors, in their order.
pub record AreCppcParts (entries : List Entry) (P : Plan) (ps : List CppcParts) : Type 0 where
  pub count : length ps ≡ length P.cpus
  pub each : (p : ℕ) → p < length P.cpus → IsCppcOf entries (cpu_at P p) (parts_in ps p)
