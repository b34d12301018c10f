-- The objects that are written for idle tables.
use Rattle.std.specs.Prelude.{◌<◌, ◌≤◌, ◌^◌, ℕ, List, [], ◌∷◌, map, length}
use Rattle.std.specs.List.{AllByRecursion}
use Rattle.aml_data.specs.Grammar.{IsAscii}
use Rattle.aml_data.specs.declared.data.Data.{Data}
use Rattle.aml_data.specs.declared.data.Data.TheVariants.{Int, Text}
use Rattle.aml_data.specs.declared.data.Width.{Width}
use Rattle.acpi_values.specs.declared.dependency.CDependency.{CDependency}
use Rattle.acpi_values.specs.declared.idle.CState.{CState}
use Rattle.acpi_values.specs.declared.lpi.EntryMethod.{EntryMethod}
use Rattle.acpi_values.specs.declared.lpi.EntryMethod.TheVariants as entry
use Rattle.acpi_values.specs.declared.lpi.Lpi.{Lpi}
use Rattle.acpi_values.specs.declared.lpi.LpiState.{LpiState}
use Rattle.acpi_fields.specs.Dependencies.{coord_number}
use Rattle.acpi_fields.specs.Writing.{FitsWidth, package_object, register_object}

-- a C state
abbrev pub cst_row_object : CState → Data
cst_row_object s = package_object (register_object s.register ∷ Int s.kind ∷ Int s.latency ∷ Int s.power ∷ [])

-- `_CST`
abbrev pub cst_object : List CState → Data
cst_object states = package_object (Int (length states) ∷ map cst_row_object states)

-- a dependency of a C state
abbrev pub csd_row_object : CDependency → Data
csd_row_object d = package_object (Int 6 ∷ Int 0 ∷ Int d.domain ∷ Int (coord_number d.coord) ∷ Int d.processors ∷ Int d.index ∷ [])

-- `_CSD`
abbrev pub csd_object : List CDependency → Data
csd_object entries = package_object (map csd_row_object entries)

-- an entry method
abbrev pub entry_object : EntryMethod → Data
entry_object (entry.Register r) = register_object r
entry_object (entry.Integer n) = Int n

-- a low power idle state
abbrev pub lpi_row_object : LpiState → Data
lpi_row_object s = package_object (
    Int s.min_residency ∷ Int s.wake_latency ∷ Int s.flags ∷ Int s.lost ∷ Int s.frequency ∷ Int s.parent
    ∷ entry_object s.entry ∷ register_object s.residency ∷ register_object s.usage ∷ Text s.name ∷ [])

-- `_LPI`
abbrev pub lpi_object : Lpi → Data
lpi_object lpi = package_object (Int 0 ∷ Int lpi.level ∷ Int (length lpi.states) ∷ map lpi_row_object lpi.states)

-- # Values in their ranges

-- a C state
pub record IsCState (s : CState) : Type 0 where
  pub address : s.register.address < 2 ^ 64
  pub known : 1 ≤ s.kind
  pub shallow : s.kind ≤ 3
  pub latency : s.latency < 2 ^ 32
  pub power : s.power < 2 ^ 32

-- a dependency of a C state
pub record IsCDependency (d : CDependency) : Type 0 where
  pub domain : d.domain < 2 ^ 32
  pub processors : d.processors < 2 ^ 32
  pub index : d.index < 2 ^ 32

-- an entry method that integers of this width hold
abbrev pub IsEntryMethod : Width → EntryMethod → Type 0
IsEntryMethod width (entry.Register r) = r.address < 2 ^ 64
IsEntryMethod width (entry.Integer n) = FitsWidth width n

-- a low power idle state
pub record IsLpiState (width : Width) (s : LpiState) : Type 0 where
  pub min_residency : s.min_residency < 2 ^ 32
  pub wake_latency : s.wake_latency < 2 ^ 32
  pub flags : s.flags < 2 ^ 32
  pub lost : s.lost < 2 ^ 32
  pub frequency : s.frequency < 2 ^ 32
  pub parent : s.parent < 2 ^ 32
  pub entry : IsEntryMethod width s.entry
  pub residency : s.residency.address < 2 ^ 64
  pub usage : s.usage.address < 2 ^ 64

-- low power idle states that a table with integers of this width holds
pub record IsLpi (width : Width) (lpi : Lpi) : Type 0 where
  pub level : FitsWidth width lpi.level
  pub states : AllByRecursion (IsLpiState width) lpi.states

-- A name that can be written: a string of bytes 1 to 7F, of which there are fewer than 65,536, a bound of this project's own.
pub record IsName (name : List ℕ) : Type 0 where
  pub ascii : AllByRecursion IsAscii name
  pub short : length name < 2 ^ 16
