-- The parts of a plan, by number, and when they fit together.
use Rattle.std.specs.Prelude.{◌≡◌, ◌≢◌, ◌==◌, ◌<◌, ◌&&◌, ℕ, Bool, true, false, List, [], length, nat_lt, slice_index_or, Option, Some, None}
use Rattle.acpi_values.specs.declared.dependency.CDependency.{CDependency}
use Rattle.acpi_values.specs.declared.dependency.Coord.TheVariants.{HwAll}
use Rattle.acpi_values.specs.declared.lpi.EntryMethod.TheVariants.{Integer}
use Rattle.acpi_values.specs.declared.idle.IdleKind.TheVariants.{Cst, Absent}
use Rattle.acpi_values.specs.declared.idle.IdleRow.{IdleRow}
use Rattle.acpi_values.specs.declared.idle.IdleTable.{IdleTable}
use Rattle.pw_plan.specs.declared.parts.ContainerParts.{ContainerParts}
use Rattle.pw_plan.specs.declared.parts.CpuParts.{CpuParts}
use Rattle.pw_plan.specs.declared.parts.Scale.{Scale}
use Rattle.pw_plan.specs.declared.domain.DomainKind.{DomainKind}
use Rattle.pw_plan.specs.declared.domain.DomainKind.TheVariants.{Perf, Throttle, Idle}

-- # What stands at a number. What is read past the end of a list is never asked for

unfoldable pub no_row : IdleRow
no_row = record { enabled = false; latency = 0; residency = 0; parent = 0; entry = Integer 0 }

unfoldable pub no_table : IdleTable
no_table = record { kind = Absent; rows = [] }

unfoldable pub no_container : ContainerParts
no_container = record { path = record { segs = [] }; parent = None; idle = no_table }

unfoldable pub no_cpu : CpuParts
no_cpu = record { path = record { segs = [] }; parent = None; idle = no_table; csd = []; perf = None; throttle = None; cpc = None }

unfoldable pub no_entry : CDependency
no_entry = record { domain = 0; coord = HwAll; processors = 0; index = 0 }

abbrev pub container_in : List ContainerParts → ℕ → ContainerParts
container_in cs n = slice_index_or cs n no_container

abbrev pub cpu_in : List CpuParts → ℕ → CpuParts
cpu_in ps p = slice_index_or ps p no_cpu

abbrev pub entry_in : List CDependency → ℕ → CDependency
entry_in es k = slice_index_or es k no_entry

-- the states that requests of this kind speak of: performance or throttling states
abbrev pub scale_of : DomainKind → CpuParts → Option Scale
scale_of Perf c = c.perf
scale_of Throttle c = c.throttle
scale_of Idle c = None

-- how many states a scale has, 0 where there is none
abbrev pub count_of : Option Scale → ℕ
count_of None = 0
count_of (Some scale) = length scale.controls

-- # When parts fit together

-- whether there is no scale, or one with a state
abbrev pub has_states : Option Scale → Bool
has_states None = true
has_states (Some scale) = nat_lt 0 (length scale.controls)

-- whether an entry of `_CSD` is about this domain and this C state, counted from 0 (ACPI 6.5, 8.4.1.2)
abbrev pub is_entry : ℕ → ℕ → CDependency → Bool
is_entry domain index e = (e.domain == domain) && (e.index == index)

-- Each entry of `_CSD` is about a C state that the processor has, and no two are about the same domain and state.
pub record FitsCsd (c : CpuParts) : Type 0 where
  pub kind : (k : ℕ) → k < length c.csd → c.idle.kind ≡ Cst
  pub state : (k : ℕ) → k < length c.csd → (entry_in c.csd k).index < length c.idle.rows
  pub once : (j k : ℕ) → j < k → k < length c.csd → is_entry (entry_in c.csd j).domain (entry_in c.csd j).index (entry_in c.csd k) ≡ false

-- whether a parent, if there is one, is one of the first n containers
abbrev pub is_below : ℕ → Option ℕ → Bool
is_below n None = true
is_below n (Some m) = nat_lt m n

-- each container's parent stands before it
abbrev pub ParentsFall : List ContainerParts → Type 0
ParentsFall cs = (n : ℕ) → n < length cs → is_below n (container_in cs n).parent ≡ true

-- The parts fit together: a container's parent stands before it, a processor's parent is a container, no two
-- processors have one path, and the tables of each processor agree.
pub record PartsFit (cs : List ContainerParts) (ps : List CpuParts) : Type 0 where
  pub containers : ParentsFall cs
  pub processors : (p : ℕ) → p < length ps → is_below (length cs) (cpu_in ps p).parent ≡ true
  pub paths : (p q : ℕ) → p < q → q < length ps → (cpu_in ps p).path ≢ (cpu_in ps q).path
  pub perf : (p : ℕ) → p < length ps → has_states (cpu_in ps p).perf ≡ true
  pub throttle : (p : ℕ) → p < length ps → has_states (cpu_in ps p).throttle ≡ true
  pub csd : (p : ℕ) → p < length ps → FitsCsd (cpu_in ps p)
