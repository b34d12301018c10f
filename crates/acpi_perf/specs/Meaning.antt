-- What the objects of performance and throttling states mean, said of an object and its value together (ACPI 6.5, 8.4.4 and 8.4.5).
use Rattle.std.specs.Prelude.{◌≡◌, ◌^◌, ℕ, List, [], ◌∷◌, length}
use Rattle.aml_data.specs.declared.data.Data.{Data}
use Rattle.aml_data.specs.declared.data.Width.{Width}
use Rattle.acpi_values.specs.declared.dependency.Dependency.{Dependency}
use Rattle.acpi_values.specs.declared.performance.ControlPair.{ControlPair}
use Rattle.acpi_values.specs.declared.performance.PState.{PState}
use Rattle.acpi_values.specs.declared.performance.TState.{TState}
use Rattle.acpi_fields.specs.Meaning.{AreRows, DependencyMeans, IsNumber, IsPackageOf, IsRegisterObject}
use Rattle.acpi_fields.specs.Reading.{field}

-- A performance state: a package of six numbers of 32 bits (ACPI 6.5, 8.4.5.2).
pub record PStateMeans (width : Width) (object : Data) (s : PState) : Type 0 where
  pub fields : List Data
  pub whole : IsPackageOf object fields
  pub six : length fields ≡ 6
  pub frequency : IsNumber width (2 ^ 32) (field fields 1) s.frequency
  pub power : IsNumber width (2 ^ 32) (field fields 2) s.power
  pub latency : IsNumber width (2 ^ 32) (field fields 3) s.latency
  pub bus_latency : IsNumber width (2 ^ 32) (field fields 4) s.bus_latency
  pub control : IsNumber width (2 ^ 32) (field fields 5) s.control
  pub status : IsNumber width (2 ^ 32) (field fields 6) s.status

-- `_PSS`: a package with one element for each performance state, in their order (ACPI 6.5, 8.4.5.2).
pub record PssMeans (width : Width) (object : Data) (states : List PState) : Type 0 where
  pub elements : List Data
  pub whole : IsPackageOf object elements
  pub rows : AreRows (PStateMeans width) elements states

-- A throttling state: a package of five numbers of 32 bits (ACPI 6.5, 8.4.4.2).
pub record TStateMeans (width : Width) (object : Data) (s : TState) : Type 0 where
  pub fields : List Data
  pub whole : IsPackageOf object fields
  pub five : length fields ≡ 5
  pub percent : IsNumber width (2 ^ 32) (field fields 1) s.percent
  pub power : IsNumber width (2 ^ 32) (field fields 2) s.power
  pub latency : IsNumber width (2 ^ 32) (field fields 3) s.latency
  pub control : IsNumber width (2 ^ 32) (field fields 4) s.control
  pub status : IsNumber width (2 ^ 32) (field fields 5) s.status

-- `_TSS`: a package with one element for each throttling state, in their order (ACPI 6.5, 8.4.4.2).
pub record TssMeans (width : Width) (object : Data) (states : List TState) : Type 0 where
  pub elements : List Data
  pub whole : IsPackageOf object elements
  pub rows : AreRows (TStateMeans width) elements states

-- `_PCT` and `_PTC`: a package of two registers, control and status (ACPI 6.5, 8.4.5.1 and 8.4.4.1).
pub record ControlMeans (object : Data) (pair : ControlPair) : Type 0 where
  pub control : Data
  pub status : Data
  pub whole : IsPackageOf object (control ∷ status ∷ [])
  pub controls : IsRegisterObject control pair.control
  pub tells : IsRegisterObject status pair.status

-- `_PPC` and `_TPC`: a number of 32 bits (ACPI 6.5, 8.4.5.3 and 8.4.4.3).
abbrev pub LimitMeans : Width → Data → ℕ → Type 0
LimitMeans width object limit = IsNumber width (2 ^ 32) object limit

-- `_PSD` and `_TSD`: a package of one package of five fields (ACPI 6.5, 8.4.5.5 and 8.4.4.4).
pub record DomainMeans (width : Width) (object : Data) (d : Dependency) : Type 0 where
  pub entry : Data
  pub fields : List Data
  pub whole : IsPackageOf object (entry ∷ [])
  pub inner : IsPackageOf entry fields
  pub five : length fields ≡ 5
  pub declared : DependencyMeans width 5 fields d
