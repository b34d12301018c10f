-- C states, and their dependencies (ACPI 6.5, 8.4.1).
use Rattle.std.specs.Prelude.{◌&&◌, ◌-◌, ℕ, List, length, drop, Ok, Err, if◌then◌else◌, nat_le}
use Rattle.aml_data.specs.declared.data.Data.{Data}
use Rattle.aml_data.specs.declared.data.Width.{Width}
use Rattle.acpi_values.specs.declared.dependency.CDependency.{CDependency}
use Rattle.acpi_values.specs.declared.fault.Place.{Place}
use Rattle.acpi_values.specs.declared.fault.Why.TheVariants.{Range}
use Rattle.acpi_values.specs.declared.idle.CState.{CState}
use Rattle.acpi_fields.specs.Dependencies.{dependency_of}
use Rattle.pw_base.specs.Answers.{◌>>=◌}
use Rattle.acpi_fields.specs.Reading.{Read, shape, place, count_at, elements_at, field, fields_of, number_of, register_at, rows_from, whole_of, most_32, most_64}

-- the type of a C state: C1, C2 or C3
abbrev pub kind_in : Place → ℕ → Read ℕ
kind_in at n = if nat_le 1 n && nat_le n 3 then Ok n else Err (shape at Range)

-- a C state: element k is a package of its register, its type, its latency and its power
abbrev pub cst_row : Width → ℕ → Data → Read CState
cst_row width k object =
    fields_of k 4 object >>= λ fields.
    register_at (place k 1) (field fields 1) >>= λ register.
    number_of width most_64 k 2 fields >>= λ n. kind_in (place k 2) n >>= λ kind.
    number_of width most_32 k 3 fields >>= λ latency.
    number_of width most_32 k 4 fields >>= λ power.
    Ok (record { register = register; kind = kind; latency = latency; power = power })

-- `_CST`: how many states there are, and then these (ACPI 6.5, 8.4.1.1)
unfoldable pub cst_of : Width → Data → Read (List CState)
cst_of width object =
    whole_of 1 object >>= λ elements.
    count_at width 1 (length elements - 1) (field elements 1) >>= λ _.
    rows_from (cst_row width) 2 (drop 1 elements)

-- a dependency: element k is a package of six fields, of which the last is the C state, counted from 0
abbrev pub csd_row : Width → ℕ → Data → Read CDependency
csd_row width k object =
    fields_of k 6 object >>= λ fields.
    dependency_of width 6 k fields >>= λ d.
    number_of width most_32 k 6 fields >>= λ index.
    Ok (record { domain = d.domain; coord = d.coord; processors = d.processors; index = index })

-- `_CSD`: a package of dependencies (ACPI 6.5, 8.4.1.2)
unfoldable pub csd_of : Width → Data → Read (List CDependency)
csd_of width object = elements_at (place 0 0) object >>= λ elements. rows_from (csd_row width) 1 elements
