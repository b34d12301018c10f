-- What the parts of an object mean, said of an object and its value together: with no order of tests, and no places (ACPI 6.5, 8.4).
use Rattle.std.specs.Prelude.{◌≡◌, ◌⊎◌, ◌<◌, ◌%◌, ◌^◌, ℕ, List, [], ◌∷◌, ◌++◌, length, sum, Err}
use Rattle.std.specs.Int.{w64, from_le_bytes}
use Rattle.aml_data.specs.Meaning.{all_ones, at_width}
use Rattle.aml_data.specs.declared.data.Data.{Data}
use Rattle.aml_data.specs.declared.data.Data.TheVariants.{Int, Ones, Package}
use Rattle.aml_data.specs.Objects.{Buffer, VarPackage}
use Rattle.aml_data.specs.declared.data.Width.{Width}
use Rattle.acpi_values.specs.declared.dependency.Dependency.{Dependency}
use Rattle.acpi_values.specs.declared.register.Register.{Register}
use Rattle.acpi_fields.specs.Dependencies.{coord_number}
use Rattle.acpi_values.specs.declared.fault.Shape.{Shape}
use Rattle.acpi_fields.specs.Reading.{Read, content, field}

-- An integer at this width: a constant, of which a width of 32 bits keeps the low half, or Ones, all bits set
-- (ACPI 6.5, 5.2.11.1 and 20.2.3).
pub data IsInteger (width : Width) : Data → ℕ → Type 0 where
  is_constant : (n : ℕ) → IsInteger width (Int n) (at_width width n)
  is_ones : IsInteger width Ones (all_ones width)

-- An integer at this width that is below a bound.
pub record IsNumber (width : Width) (bound : ℕ) (object : Data) (n : ℕ) : Type 0 where
  pub means : IsInteger width object n
  pub fits : n < bound

-- A resource template of one generic register descriptor, which holds this register, and the end tag: its checksum is 0, or
-- brings the sum of all bytes to 0 modulo 256 (ACPI 6.5, 6.4.3.7 and 6.4.2.9).
pub record IsTemplateOf (bytes : List ℕ) (r : Register) : Type 0 where
  pub address : List ℕ
  pub checksum : ℕ
  pub layout : bytes ≡ 130 ∷ 12 ∷ 0 ∷ r.space ∷ r.width ∷ r.offset ∷ r.access ∷ address ++ 121 ∷ checksum ∷ []
  pub eight : length address ≡ 8
  pub number : from_le_bytes w64 address ≡ r.address
  pub summed : (checksum ≡ 0) ⊎ (sum bytes % 256 ≡ 0)

-- A buffer that holds the resource template of this register: its bytes, and zeros up to its size (ACPI 6.5, 6.4.3.7).
pub record IsRegisterObject (object : Data) (r : Register) : Type 0 where
  pub size : ℕ
  pub bytes : List ℕ
  pub buffer : object ≡ Buffer size bytes
  pub template : IsTemplateOf (content size bytes) r

-- A package of these elements, of either kind (ACPI 6.5, 20.2.5.4).
pub data IsPackageOf : Data → List Data → Type 0 where
  is_package : (count : ℕ) (elements : List Data) → IsPackageOf (Package count elements) elements
  is_var_package : (count : ℕ) (elements : List Data) → IsPackageOf (VarPackage count elements) elements

-- Objects that mean these values one by one: as many objects as values, in one order.
abbrev pub AreRows : {A : Type 0} → (Data → A → Type 0) → List Data → List A → Type 0
AreRows Means [] [] = Unit {0}
AreRows Means (object ∷ objects) (value ∷ values) = Means object value × AreRows Means objects values
AreRows Means [] (value ∷ values) = ⊥
AreRows Means (object ∷ objects) [] = ⊥

-- The fields with which an entry of `_PSD`, `_TSD` or `_CSD` begins: how many fields it has, revision 0, the number of the
-- domain, the coordination type (FC, FD or FE), and how many processors the domain has (ACPI 6.5, 8.3).
pub record DependencyMeans (width : Width) (count : ℕ) (fields : List Data) (d : Dependency) : Type 0 where
  pub entries : IsNumber width (2 ^ 64) (field fields 1) count
  pub revision : IsNumber width (2 ^ 64) (field fields 2) 0
  pub domain : IsNumber width (2 ^ 32) (field fields 3) d.domain
  pub coord : IsNumber width (2 ^ 64) (field fields 4) (coord_number d.coord)
  pub processors : IsNumber width (2 ^ 32) (field fields 5) d.processors

-- A reading is refused, at some place and for some reason, exactly where the object means nothing.
pub record IsRefusedWhereNothing {A : Type 0} (read : Read A) (Means : A → Type 0) : Type 0 where
  pub refused : (shape : Shape) (value : A) → read ≡ Err shape → Means value → ⊥
  pub nothing : ((value : A) → Means value → ⊥) → (shape : Shape) × (read ≡ Err shape)
