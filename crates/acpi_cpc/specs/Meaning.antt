-- What continuous performance control means, said of an object and its value together (ACPI 6.5, 8.4.6.1).
use Rattle.std.specs.Prelude.{◌+◌, ◌^◌, ℕ, List, ◌∷◌, length}
use Rattle.aml_data.specs.declared.data.Data.{Data}
use Rattle.aml_data.specs.declared.data.Width.{Width}
use Rattle.acpi_values.specs.declared.performance.Cpc.{Cpc}
use Rattle.acpi_values.specs.declared.performance.CpcEntry.{CpcEntry}
use Rattle.acpi_values.specs.declared.performance.CpcEntry.TheVariants.{Number, Register}
use Rattle.acpi_fields.specs.Meaning.{AreRows, IsInteger, IsNumber, IsPackageOf, IsRegisterObject}

-- How many elements a revision has: 21 in revision 2 and 23 in revision 3. Others aren't known.
pub data HasElements : ℕ → ℕ → Type 0 where
  in_revision_2 : HasElements 2 21
  in_revision_3 : HasElements 3 23

-- An element: an integer, or a register.
abbrev pub EntryMeans : Width → Data → CpcEntry → Type 0
EntryMeans width object (Number n) = IsInteger width object n
EntryMeans width object (Register r) = IsRegisterObject object r

-- `_CPC`: a package of how many elements it has, these two too, then the revision, and then the others, in their order.
pub record CpcMeans (width : Width) (object : Data) (cpc : Cpc) : Type 0 where
  pub count : Data
  pub revision : Data
  pub behind : List Data
  pub whole : IsPackageOf object (count ∷ revision ∷ behind)
  pub counts : IsNumber width (2 ^ 64) count (length behind + 2)
  pub revised : IsNumber width (2 ^ 64) revision cpc.revision
  pub known : HasElements cpc.revision (length behind + 2)
  pub rows : AreRows (EntryMeans width) behind cpc.entries
