-- What the objects of idle states mean, said of an object and its value together (ACPI 6.5, 8.4.1 and 8.4.3.3).
use Rattle.std.specs.Prelude.{◌≡◌, ◌≤◌, ◌^◌, ℕ, List, ◌∷◌, length}
use Rattle.aml_data.specs.declared.data.Data.{Data}
use Rattle.aml_data.specs.declared.data.Data.TheVariants.{Text}
use Rattle.aml_data.specs.declared.data.Width.{Width}
use Rattle.acpi_values.specs.declared.dependency.CDependency.{CDependency}
use Rattle.acpi_values.specs.declared.idle.CState.{CState}
use Rattle.acpi_values.specs.declared.lpi.EntryMethod.{EntryMethod}
use Rattle.acpi_values.specs.declared.lpi.EntryMethod.TheVariants as entry
use Rattle.acpi_values.specs.declared.lpi.Lpi.{Lpi}
use Rattle.acpi_values.specs.declared.lpi.LpiState.{LpiState}
use Rattle.acpi_values.specs.declared.register.Register.{Register}
use Rattle.acpi_values.specs.Null.{null_register}
use Rattle.acpi_fields.specs.Meaning.{AreRows, DependencyMeans, IsInteger, IsNumber, IsPackageOf, IsRegisterObject}
use Rattle.acpi_fields.specs.Reading.{field}

-- # C states

-- A C state: a package of its register, its type, which is 1, 2 or 3, its latency and its power (ACPI 6.5, 8.4.1.1).
pub record CStateMeans (width : Width) (object : Data) (s : CState) : Type 0 where
  pub fields : List Data
  pub whole : IsPackageOf object fields
  pub four : length fields ≡ 4
  pub register : IsRegisterObject (field fields 1) s.register
  pub kind : IsNumber width (2 ^ 64) (field fields 2) s.kind
  pub known : (1 ≤ s.kind) × (s.kind ≤ 3)
  pub latency : IsNumber width (2 ^ 32) (field fields 3) s.latency
  pub power : IsNumber width (2 ^ 32) (field fields 4) s.power

-- `_CST`: a package of a count, and then so many C states, in their order (ACPI 6.5, 8.4.1.1).
pub record CstMeans (width : Width) (object : Data) (states : List CState) : Type 0 where
  pub count : Data
  pub behind : List Data
  pub whole : IsPackageOf object (count ∷ behind)
  pub counts : IsNumber width (2 ^ 64) count (length behind)
  pub rows : AreRows (CStateMeans width) behind states

-- A dependency: a package of six fields, five as of every dependency, and the C state, counted from 0 (ACPI 6.5, 8.4.1.2).
pub record CDependencyMeans (width : Width) (object : Data) (d : CDependency) : Type 0 where
  pub fields : List Data
  pub whole : IsPackageOf object fields
  pub six : length fields ≡ 6
  pub declared : DependencyMeans width 6 fields (record { domain = d.domain; coord = d.coord; processors = d.processors })
  pub index : IsNumber width (2 ^ 32) (field fields 6) d.index

-- `_CSD`: a package of dependencies, in their order (ACPI 6.5, 8.4.1.2).
pub record CsdMeans (width : Width) (object : Data) (entries : List CDependency) : Type 0 where
  pub elements : List Data
  pub whole : IsPackageOf object elements
  pub rows : AreRows (CDependencyMeans width) elements entries

-- # Low power idle states

-- An entry method: a register, or an integer (ACPI 6.5, 8.4.3.3).
abbrev pub EntryMeans : Width → Data → EntryMethod → Type 0
EntryMeans width object (entry.Register r) = IsRegisterObject object r
EntryMeans width object (entry.Integer n) = IsInteger width object n

-- A counter: a register, or any integer, which stands for the null register (ACPI 6.5, 8.4.3.3).
pub data CounterMeans (width : Width) (object : Data) : Register → Type 0 where
  is_counter : (r : Register) → IsRegisterObject object r → CounterMeans width object r
  is_no_counter : (n : ℕ) → IsInteger width object n → CounterMeans width object null_register

-- A low power idle state: a package of six numbers of 32 bits, the entry method, the counters of residency and of usage,
-- and the name, a string (ACPI 6.5, 8.4.3.3).
pub record LpiStateMeans (width : Width) (object : Data) (s : LpiState) : Type 0 where
  pub fields : List Data
  pub whole : IsPackageOf object fields
  pub ten : length fields ≡ 10
  pub min_residency : IsNumber width (2 ^ 32) (field fields 1) s.min_residency
  pub wake_latency : IsNumber width (2 ^ 32) (field fields 2) s.wake_latency
  pub flags : IsNumber width (2 ^ 32) (field fields 3) s.flags
  pub lost : IsNumber width (2 ^ 32) (field fields 4) s.lost
  pub frequency : IsNumber width (2 ^ 32) (field fields 5) s.frequency
  pub parent : IsNumber width (2 ^ 32) (field fields 6) s.parent
  pub entry : EntryMeans width (field fields 7) s.entry
  pub residency : CounterMeans width (field fields 8) s.residency
  pub usage : CounterMeans width (field fields 9) s.usage
  pub name : field fields 10 ≡ Text s.name

-- `_LPI`: a package of the revision, which is 0, the level, a count, and then so many states, in their order
-- (ACPI 6.5, 8.4.3.3).
pub record LpiMeans (width : Width) (object : Data) (lpi : Lpi) : Type 0 where
  pub revision : Data
  pub level : Data
  pub count : Data
  pub behind : List Data
  pub whole : IsPackageOf object (revision ∷ level ∷ count ∷ behind)
  pub revised : IsNumber width (2 ^ 64) revision 0
  pub leveled : IsNumber width (2 ^ 64) level lpi.level
  pub counts : IsNumber width (2 ^ 64) count (length behind)
  pub rows : AreRows (LpiStateMeans width) behind lpi.states
