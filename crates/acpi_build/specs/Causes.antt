-- Why notes are given: each cause has its note, once (ACPI 6.5, 8.4).
use Rattle.std.specs.Prelude.{◌≡◌, ◌≢◌, ◌⊎◌, ◌↔◌, ◌<◌, ◌≤◌, ℕ, List, [], length, map, Option, Some, None, Contains}
use Rattle.std.specs.Option.{unwrap_or}
use Rattle.aml_data.specs.declared.path.Path.{Path}
use Rattle.acpi_values.specs.declared.dependency.CDependency.{CDependency}
use Rattle.acpi_values.specs.declared.idle.CState.{CState}
use Rattle.acpi_values.specs.declared.lpi.Lpi.{Lpi}
use Rattle.acpi_idle.specs.Meaning.{CstMeans, LpiMeans}
use Rattle.acpi_perf.specs.Meaning.{PssMeans, TssMeans}
use Rattle.acpi_space.specs.Distinct.{IsDistinct}
use Rattle.acpi_space.specs.Namespace.{Entry}
use Rattle.acpi_space.specs.Things.Thing.{method, alias_of}
use Rattle.pw_plan.specs.declared.plan.Plan.{Plan}
use Rattle.pw_plan.specs.Groups.{domain_in, first_of}
use Rattle.pw_plan.specs.Limits.{in_32_bits}
use Rattle.pw_plan.specs.Parts.{cpu_in, entry_in}
use Rattle.acpi_build.specs.declared.names.Name.{Name}
use Rattle.acpi_build.specs.declared.names.Name.TheVariants as names
use Rattle.acpi_build.specs.declared.note.Note.{Note}
use Rattle.acpi_build.specs.declared.note.NoteKind.TheVariants.{ByMethod, ByAlias, Empty, Ignored, NoSuchState, UnfitDomain}
use Rattle.acpi_build.specs.Building.{note_at}
use Rattle.acpi_build.specs.Finding.{containers_of, place_below, processors_of}
use Rattle.acpi_build.specs.Meaning.{StandsAt}
use Rattle.acpi_build.specs.Sources.{AreCst, AreLpi, IsCsd, IsTable}

-- # What may be a cause

-- A method stands at a name of object k, or an alias; its table of this name has no states; its `_CST` has states, though its
-- `_LPI` has some; entry j of its `_CSD`, counted from 0, is about a C state that isn't there; domain d can't be coordinated.
pub data Cause : Type 0 where
  by_method : ℕ → Name → Cause
  by_alias : ℕ → Name → Cause
  of_no_states : ℕ → Name → Cause
  beside_lpi : ℕ → Cause
  of_no_such_state : ℕ → ℕ → Cause
  of_unfit_domain : ℕ → Cause

-- the note of a cause
abbrev pub note_of : List Entry → Plan → Cause → Note
note_of entries P (by_method k name) = note_at (place_below entries k name) ByMethod
note_of entries P (by_alias k name) = note_at (place_below entries k name) ByAlias
note_of entries P (of_no_states k name) = note_at (place_below entries k name) Empty
note_of entries P (beside_lpi k) = note_at (place_below entries k names.Cst) Ignored
note_of entries P (of_no_such_state k j) = note_at (place_below entries k names.Csd) NoSuchState
note_of entries P (of_unfit_domain d) =
    note_at (cpu_in P.cpus (first_of (domain_in P.domains d).members)).path.segs (UnfitDomain (in_32_bits d))

-- # When it is one

-- the tables that are read: `_LPI` of a container, and those of all names but `_HID` of a processor
abbrev pub IsReadOf : List Entry → ℕ → Name → Type 0
IsReadOf entries k name =
    (Contains (containers_of entries) k × (name ≡ names.Lpi)) ⊎ (Contains (processors_of entries) k × (name ≢ names.Hid))

-- the table of this name has no states
abbrev pub HasNoStates : List Entry → ℕ → Name → Type 0
HasNoStates entries k names.Lpi =
    (lpi : Lpi) × IsTable LpiMeans entries (place_below entries k names.Lpi) (Some lpi) × (length lpi.states ≡ 0)
HasNoStates entries k names.Cst = IsTable CstMeans entries (place_below entries k names.Cst) (Some [])
HasNoStates entries k names.Pss = IsTable PssMeans entries (place_below entries k names.Pss) (Some [])
HasNoStates entries k names.Tss = IsTable TssMeans entries (place_below entries k names.Tss) (Some [])
HasNoStates entries k names.Hid = ⊥
HasNoStates entries k names.Csd = ⊥
HasNoStates entries k names.Pct = ⊥
HasNoStates entries k names.Ppc = ⊥
HasNoStates entries k names.Psd = ⊥
HasNoStates entries k names.Ptc = ⊥
HasNoStates entries k names.Tpc = ⊥
HasNoStates entries k names.Tsd = ⊥
HasNoStates entries k names.Cpc = ⊥

-- `_LPI` and `_CST` have states
pub record HasBoth (entries : List Entry) (k : ℕ) : Type 0 where
  pub lpi : Lpi
  pub cst : List CState
  pub lpi_is : AreLpi entries k (Some lpi)
  pub cst_is : AreCst entries k (Some cst)

-- entry j of `_CSD` is about a C state that isn't there, and `_LPI` has no states
pub record LacksState (entries : List Entry) (k j : ℕ) : Type 0 where
  pub cst : Option (List CState)
  pub csd : List CDependency
  pub no_lpi : AreLpi entries k None
  pub cst_is : AreCst entries k cst
  pub csd_is : IsCsd entries k (Some csd)
  pub among : j < length csd
  pub past : length (unwrap_or cst []) ≤ (entry_in csd j).index

-- it is the cause of a note
abbrev pub IsCause : List Entry → Plan → Cause → Type 0
IsCause entries P (by_method k name) = IsReadOf entries k name × StandsAt entries (place_below entries k name) method
IsCause entries P (by_alias k name) =
    IsReadOf entries k name × ((source : Path) × StandsAt entries (place_below entries k name) (alias_of source))
IsCause entries P (of_no_states k name) = IsReadOf entries k name × HasNoStates entries k name
IsCause entries P (beside_lpi k) = Contains (processors_of entries) k × HasBoth entries k
IsCause entries P (of_no_such_state k j) = Contains (processors_of entries) k × LacksState entries k j
IsCause entries P (of_unfit_domain d) = (d < length P.domains) × (0 < (domain_in P.domains d).unfit)

-- # The notes

-- a note has a cause
abbrev pub IsCaused : List Entry → Plan → Note → Type 0
IsCaused entries P note = (c : Cause) × IsCause entries P c × (note ≡ note_of entries P c)

-- the notes are those of the causes, each of which is taken once
pub record AreNotesOfCauses (entries : List Entry) (P : Plan) (notes : List Note) : Type 0 where
  pub causes : List Cause
  pub once : IsDistinct causes
  pub all : (c : Cause) → Contains causes c ↔ IsCause entries P c
  pub noted : notes ≡ map (note_of entries P) causes
