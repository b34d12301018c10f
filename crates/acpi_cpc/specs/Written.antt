-- The objects that are written for continuous performance control.
use Rattle.std.specs.Prelude.{◌≡◌, ◌<◌, ◌+◌, ◌^◌, ◌∷◌, map, length, Ok}
use Rattle.std.specs.List.{AllByRecursion}
use Rattle.aml_data.specs.declared.data.Data.{Data}
use Rattle.aml_data.specs.declared.data.Data.TheVariants.{Int}
use Rattle.aml_data.specs.declared.data.Width.{Width}
use Rattle.acpi_values.specs.declared.performance.Cpc.{Cpc}
use Rattle.acpi_values.specs.declared.performance.CpcEntry.{CpcEntry}
use Rattle.acpi_values.specs.declared.performance.CpcEntry.TheVariants.{Number, Register}
use Rattle.acpi_fields.specs.Writing.{FitsWidth, package_object, register_object}
use Rattle.acpi_cpc.specs.Cpcs.{element_count}

-- an element
abbrev pub entry_object : CpcEntry → Data
entry_object (Number n) = Int n
entry_object (Register r) = register_object r

-- `_CPC`
abbrev pub cpc_object : Cpc → Data
cpc_object cpc = package_object (Int (length cpc.entries + 2) ∷ Int cpc.revision ∷ map entry_object cpc.entries)

-- # Values in their ranges

-- an element that integers of this width hold
abbrev pub IsEntry : Width → CpcEntry → Type 0
IsEntry width (Number n) = FitsWidth width n
IsEntry width (Register r) = r.address < 2 ^ 64

-- continuous performance control of a known revision, with its number of elements
pub record IsCpc (width : Width) (cpc : Cpc) : Type 0 where
  pub count : element_count cpc.revision ≡ Ok (length cpc.entries + 2)
  pub revision : cpc.revision < 256
  pub entries : AllByRecursion (IsEntry width) cpc.entries
