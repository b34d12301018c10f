-- The tables of an object: absent, elsewhere than in a data object, empty, a value, or without meaning (ACPI 6.5, 8.4).
use Rattle.std.specs.Prelude.{ℕ, ◌==◌, List, length, Option, Some, None, Ok, Err, if◌then◌else◌}
use Rattle.aml_data.specs.declared.data.Data.{Data}
use Rattle.aml_data.specs.declared.data.Width.{Width}
use Rattle.acpi_values.specs.declared.dependency.CDependency.{CDependency}
use Rattle.acpi_values.specs.declared.dependency.Dependency.{Dependency}
use Rattle.acpi_values.specs.declared.idle.CState.{CState}
use Rattle.acpi_values.specs.declared.lpi.Lpi.{Lpi}
use Rattle.acpi_values.specs.declared.performance.ControlPair.{ControlPair}
use Rattle.acpi_values.specs.declared.performance.Cpc.{Cpc}
use Rattle.acpi_values.specs.declared.performance.PState.{PState}
use Rattle.acpi_values.specs.declared.performance.TState.{TState}
use Rattle.aml_data.specs.Countable.{IsCountable}
use Rattle.acpi_fields.specs.Reading.{Read}
use Rattle.acpi_idle.specs.CStates.{cst_of, csd_of}
use Rattle.acpi_idle.specs.Lpis.{lpi_of}
use Rattle.acpi_perf.specs.Objects.{control_of, limit_of, domain_of}
use Rattle.acpi_perf.specs.Scales.{pss_of, tss_of}
use Rattle.acpi_cpc.specs.Cpcs.{cpc_of}
use Rattle.acpi_space.specs.Things.{Thing}
use Rattle.acpi_space.specs.Things.Thing.{data_object, device, processor, method, alias_of}
use Rattle.acpi_space.specs.Places.{Place}
use Rattle.acpi_space.specs.Namespace.{Entry}
use Rattle.acpi_space.specs.Lookup.{entry_in, number_at}
use Rattle.acpi_build.specs.declared.names.Name.{Name}
use Rattle.acpi_build.specs.declared.names.Name.TheVariants as names
use Rattle.acpi_build.specs.declared.note.NoteKind.TheVariants.{ByMethod, ByAlias, Empty}
use Rattle.acpi_build.specs.Building.{◌>>=◌, Build, done, noted, refused}
use Rattle.acpi_build.specs.Finding.{place_below}

-- a data object, and the width of its integers
pub record Given : Type 0 where
  pub object : Data
  pub width : Width

-- what stands at a place: a method or an alias counts as absent and is noted, and so does a device or a processor,
-- without a note
abbrev pub seen : Place → Width → Thing → Build (Option Given)
seen place width (data_object d) = done (Some (record { object = d; width = width }))
seen place width device = done None
seen place width processor = done None
seen place width method = noted place ByMethod None
seen place width (alias_of name) = noted place ByAlias None

abbrev pub seen_at : List Entry → Place → Option ℕ → Build (Option Given)
seen_at entries place None = done None
seen_at entries place (Some k) = seen place (entry_in entries k).width (entry_in entries k).object

unfoldable pub looked_at : List Entry → Place → Build (Option Given)
looked_at entries place = seen_at entries place (number_at entries place)

-- what is read of it: its value; or it counts as absent, and the first place in it that means nothing is told
abbrev pub told : {A : Type 0} → Place → Read A → Build (Option A)
told path (Ok x) = done (Some x)
told path (Err shape) = refused path shape.place shape.why None

abbrev pub meant : {A : Type 0} → (Width → Data → Read A) → Place → Option Given → Build (Option A)
meant reads path None = done None
meant reads path (Some given) = told path (reads given.width given.object)

-- the table of this name, which is so read
abbrev pub table : {A : Type 0} → (Width → Data → Read A) → List Entry → ℕ → Name → Build (Option A)
table reads entries k name = looked_at entries (place_below entries k name) >>= meant reads (place_below entries k name)

-- a list of no states counts as absent and is noted
abbrev pub unless_empty : {A : Type 0} → (A → ℕ) → Place → Option A → Build (Option A)
unless_empty count path None = done None
unless_empty count path (Some x) = if count x == 0 then noted path Empty None else done (Some x)

abbrev pub states : {A : Type 0} → (A → ℕ) → (Width → Data → Read A) → List Entry → ℕ → Name → Build (Option A)
states count reads entries k name = table reads entries k name >>= unless_empty count (place_below entries k name)

-- # Of each name

unfoldable pub lpi_at : List Entry → ℕ → Build (Option Lpi)
lpi_at entries k = states (λ lpi. length lpi.states) lpi_of entries k names.Lpi

unfoldable pub cst_at : List Entry → ℕ → Build (Option (List CState))
cst_at entries k = states length cst_of entries k names.Cst

unfoldable pub csd_at : List Entry → ℕ → Build (Option (List CDependency))
csd_at entries k = table csd_of entries k names.Csd

unfoldable pub pss_at : List Entry → ℕ → Build (Option (List PState))
pss_at entries k = states length pss_of entries k names.Pss

unfoldable pub tss_at : List Entry → ℕ → Build (Option (List TState))
tss_at entries k = states length tss_of entries k names.Tss

unfoldable pub control_at : List Entry → ℕ → Name → Build (Option ControlPair)
control_at entries k name = table (λ width. control_of) entries k name

unfoldable pub limit_at : List Entry → ℕ → Name → Build (Option ℕ)
limit_at entries k name = table limit_of entries k name

unfoldable pub dependency_at : List Entry → ℕ → Name → Build (Option Dependency)
dependency_at entries k name = table domain_of entries k name

unfoldable pub cpc_at : List Entry → ℕ → Build (Option Cpc)
cpc_at entries k = table cpc_of entries k names.Cpc

-- # Objects whose elements can be counted in 32 bits

abbrev pub IsCountableThing : Thing → Type 0
IsCountableThing (data_object d) = IsCountable d
IsCountableThing device = Unit {0}
IsCountableThing processor = Unit {0}
IsCountableThing method = Unit {0}
IsCountableThing (alias_of name) = Unit {0}

abbrev pub AreCountable : List Entry → Type 0
AreCountable entries = (k : ℕ) → IsCountableThing (entry_in entries k).object
