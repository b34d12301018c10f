-- The objects that are written for performance and throttling tables.
use Rattle.std.specs.Prelude.{◌<◌, ◌^◌, List, [], ◌∷◌, map}
use Rattle.aml_data.specs.declared.data.Data.{Data}
use Rattle.aml_data.specs.declared.data.Data.TheVariants.{Int}
use Rattle.acpi_values.specs.declared.dependency.Dependency.{Dependency}
use Rattle.acpi_values.specs.declared.performance.ControlPair.{ControlPair}
use Rattle.acpi_values.specs.declared.performance.PState.{PState}
use Rattle.acpi_values.specs.declared.performance.TState.{TState}
use Rattle.acpi_fields.specs.Dependencies.{coord_number}
use Rattle.acpi_fields.specs.Writing.{package_object, register_object}

-- a performance state
abbrev pub pss_row_object : PState → Data
pss_row_object s = package_object (Int s.frequency ∷ Int s.power ∷ Int s.latency ∷ Int s.bus_latency ∷ Int s.control ∷ Int s.status ∷ [])

-- `_PSS`
abbrev pub pss_object : List PState → Data
pss_object states = package_object (map pss_row_object states)

-- a throttling state
abbrev pub tss_row_object : TState → Data
tss_row_object s = package_object (Int s.percent ∷ Int s.power ∷ Int s.latency ∷ Int s.control ∷ Int s.status ∷ [])

-- `_TSS`
abbrev pub tss_object : List TState → Data
tss_object states = package_object (map tss_row_object states)

-- `_PCT` and `_PTC`
abbrev pub control_object : ControlPair → Data
control_object pair = package_object (register_object pair.control ∷ register_object pair.status ∷ [])

-- `_PSD` and `_TSD`
abbrev pub domain_object : Dependency → Data
domain_object d = package_object (package_object (Int 5 ∷ Int 0 ∷ Int d.domain ∷ Int (coord_number d.coord) ∷ Int d.processors ∷ []) ∷ [])

-- # Values in their ranges

-- a performance state
pub record IsPState (s : PState) : Type 0 where
  pub frequency : s.frequency < 2 ^ 32
  pub power : s.power < 2 ^ 32
  pub latency : s.latency < 2 ^ 32
  pub bus_latency : s.bus_latency < 2 ^ 32
  pub control : s.control < 2 ^ 32
  pub status : s.status < 2 ^ 32

-- a throttling state
pub record IsTState (s : TState) : Type 0 where
  pub percent : s.percent < 2 ^ 32
  pub power : s.power < 2 ^ 32
  pub latency : s.latency < 2 ^ 32
  pub control : s.control < 2 ^ 32
  pub status : s.status < 2 ^ 32

-- a domain that is declared
pub record IsDependency (d : Dependency) : Type 0 where
  pub domain : d.domain < 2 ^ 32
  pub processors : d.processors < 2 ^ 32
