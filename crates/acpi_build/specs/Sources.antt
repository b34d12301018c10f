-- What the tables of containers and processors are, in words (ACPI 6.5, 8.4).
use Rattle.std.specs.Prelude.{◌≡◌, ◌<◌, ℕ, List, [], length, map, filter, Option, Some, None, nat_lt, Any}
use Rattle.std.specs.Option.{option_map, unwrap_or}
use Rattle.aml_data.specs.declared.data.Data.{Data}
use Rattle.aml_data.specs.declared.data.Width.{Width}
use Rattle.acpi_values.specs.declared.dependency.CDependency.{CDependency}
use Rattle.acpi_values.specs.declared.dependency.Dependency.{Dependency}
use Rattle.acpi_values.specs.declared.idle.CState.{CState}
use Rattle.acpi_values.specs.declared.idle.IdleTable.{IdleTable}
use Rattle.acpi_values.specs.declared.lpi.Lpi.{Lpi}
use Rattle.acpi_values.specs.declared.performance.ControlPair.{ControlPair}
use Rattle.acpi_values.specs.declared.performance.PState.{PState}
use Rattle.acpi_values.specs.declared.performance.TState.{TState}
use Rattle.acpi_idle.specs.Meaning.{CsdMeans, CstMeans, LpiMeans}
use Rattle.acpi_perf.specs.Meaning.{ControlMeans, DomainMeans, LimitMeans, PssMeans, TssMeans}
use Rattle.acpi_cpc.specs.Meaning.{CpcMeans}
use Rattle.acpi_space.specs.Things.Thing.{data_object}
use Rattle.acpi_space.specs.Places.{Place}
use Rattle.acpi_space.specs.Namespace.{Entry}
use Rattle.acpi_space.specs.Lookup.{path_in}
use Rattle.pw_plan.specs.declared.parts.ContainerParts.{ContainerParts}
use Rattle.pw_plan.specs.declared.parts.CpuParts.{CpuParts}
use Rattle.pw_plan.specs.declared.parts.Scale.{Scale}
use Rattle.acpi_build.specs.declared.names.Name.TheVariants as names
use Rattle.acpi_build.specs.Finding.{parent_of, place_below}
use Rattle.acpi_build.specs.Machine.{scale_with}
use Rattle.acpi_build.specs.Rows.{HasRows}

-- # Tables

-- this data object is placed here, with integers of this width
abbrev pub GivenAt : List Entry → Place → Data → Width → Type 0
GivenAt entries place d width =
    Any (λ (e : Entry). (e.path ≡ place) × (e.object ≡ data_object d) × (e.width ≡ width)) entries

-- a table is what the data object at its place means; it is absent where none stands there
pub data IsTable {A : Type 0} (Means : Width → Data → A → Type 0) (entries : List Entry) (place : Place)
    : Option A → Type 0 where
  is_given : (d : Data) (width : Width) (x : A) → GivenAt entries place d width → Means width d x
      → IsTable Means entries place (Some x)
  is_absent : ((d : Data) (width : Width) → GivenAt entries place d width → ⊥) → IsTable Means entries place None

-- a table of states, which counts as absent where it has none
pub data AreStates {A : Type 0} (Means : Width → Data → A → Type 0) (count : A → ℕ) (entries : List Entry) (place : Place)
    : Option A → Type 0 where
  are_given : (x : A) → IsTable Means entries place (Some x) → 0 < count x
      → AreStates Means count entries place (Some x)
  are_absent : IsTable Means entries place None → AreStates Means count entries place None
  are_none : (x : A) → IsTable Means entries place (Some x) → count x ≡ 0 → AreStates Means count entries place None

-- `_LPI`, and `_CST`, where they have states
abbrev pub AreLpi : List Entry → ℕ → Option Lpi → Type 0
AreLpi entries k lpi = AreStates LpiMeans (λ (l : Lpi). length l.states) entries (place_below entries k names.Lpi) lpi

abbrev pub AreCst : List Entry → ℕ → Option (List CState) → Type 0
AreCst entries k cst = AreStates CstMeans length entries (place_below entries k names.Cst) cst

abbrev pub IsCsd : List Entry → ℕ → Option (List CDependency) → Type 0
IsCsd entries k csd = IsTable CsdMeans entries (place_below entries k names.Csd) csd

-- the entries of `_CSD` about C states that are there; none beside an `_LPI`
abbrev pub kept_entries : Option Lpi → Option (List CState) → Option (List CDependency) → List CDependency
kept_entries (Some lpi) cst csd = []
kept_entries None cst csd = filter (λ e. nat_lt e.index (length (unwrap_or cst []))) (unwrap_or csd [])

-- idle states are those of `_LPI`, or else those of `_CST`, whose dependencies `_CSD` tells
pub record IsIdle (entries : List Entry) (k : ℕ) (idle : IdleTable) (kept : List CDependency) : Type 0 where
  pub lpi : Option Lpi
  pub cst : Option (List CState)
  pub csd : Option (List CDependency)
  pub lpi_is : AreLpi entries k lpi
  pub cst_is : AreCst entries k cst
  pub csd_is : IsCsd entries k csd
  pub idle_is : HasRows lpi cst idle
  pub kept_is : kept ≡ kept_entries lpi cst csd

-- a scale has the control values of its states, the control register, the opening limit and the domain
pub record IsScale {S : Type 0} (Means : Width → Data → List S → Type 0) (control : S → ℕ) (entries : List Entry)
    (states pair limit domain : Place) (o : Option Scale) : Type 0 where
  pub steps : Option (List S)
  pub registers : Option ControlPair
  pub opening : Option ℕ
  pub dependency : Option Dependency
  pub steps_are : AreStates Means length entries states steps
  pub registers_are : IsTable (λ width. ControlMeans) entries pair registers
  pub opening_is : IsTable LimitMeans entries limit opening
  pub dependency_is : IsTable DomainMeans entries domain dependency
  pub scale_is : o ≡ scale_with (option_map (map control) steps) registers opening dependency

abbrev pub IsPerf : List Entry → ℕ → Option Scale → Type 0
IsPerf entries k = IsScale PssMeans (λ (s : PState). s.control) entries
    (place_below entries k names.Pss) (place_below entries k names.Pct)
    (place_below entries k names.Ppc) (place_below entries k names.Psd)

abbrev pub IsThrottle : List Entry → ℕ → Option Scale → Type 0
IsThrottle entries k = IsScale TssMeans (λ (s : TState). s.control) entries
    (place_below entries k names.Tss) (place_below entries k names.Ptc)
    (place_below entries k names.Tpc) (place_below entries k names.Tsd)

-- the parts of container k among the objects
pub record IsContainerOf (entries : List Entry) (k : ℕ) (c : ContainerParts) : Type 0 where
  pub path : c.path.segs ≡ path_in entries k
  pub parent : c.parent ≡ parent_of entries k
  pub lpi : Option Lpi
  pub lpi_is : AreLpi entries k lpi
  pub idle : HasRows lpi None c.idle

-- the parts of processor k among the objects
pub record IsCpuOf (entries : List Entry) (k : ℕ) (c : CpuParts) : Type 0 where
  pub path : c.path.segs ≡ path_in entries k
  pub parent : c.parent ≡ parent_of entries k
  pub idle : IsIdle entries k c.idle c.csd
  pub perf : IsPerf entries k c.perf
  pub throttle : IsThrottle entries k c.throttle
  pub cpc : IsTable CpcMeans entries (place_below entries k names.Cpc) c.cpc
