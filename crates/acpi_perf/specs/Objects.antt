-- Control registers, limits and dependencies of performance and throttling states.
use Rattle.std.specs.Prelude.{ℕ, Ok}
use Rattle.aml_data.specs.declared.data.Data.{Data}
use Rattle.aml_data.specs.declared.data.Width.{Width}
use Rattle.acpi_values.specs.declared.dependency.Dependency.{Dependency}
use Rattle.acpi_values.specs.declared.performance.ControlPair.{ControlPair}
use Rattle.acpi_fields.specs.Dependencies.{dependency_of}
use Rattle.pw_base.specs.Answers.{◌>>=◌}
use Rattle.acpi_fields.specs.Reading.{Read, place, counted, elements_at, field, fields_of, integer_at, register_at, most_32}

-- `_PCT` and `_PTC`: a package of two registers, control and status (ACPI 6.5, 8.4.5.1 and 8.4.4.1)
unfoldable pub control_of : Data → Read ControlPair
control_of object =
    elements_at (place 0 0) object >>= λ elements.
    counted (place 0 0) 2 elements >>= λ two.
    register_at (place 1 0) (field two 1) >>= λ control.
    register_at (place 2 0) (field two 2) >>= λ status.
    Ok (record { control = control; status = status })

-- `_PPC` and `_TPC`: a number of 32 bits (ACPI 6.5, 8.4.5.3 and 8.4.4.3)
abbrev pub limit_of : Width → Data → Read ℕ
limit_of width object = integer_at width most_32 (place 0 0) object

-- `_PSD` and `_TSD`: a package of one package of five fields (ACPI 6.5, 8.4.5.5 and 8.4.4.4)
unfoldable pub domain_of : Width → Data → Read Dependency
domain_of width object =
    elements_at (place 0 0) object >>= λ elements.
    counted (place 0 0) 1 elements >>= λ one.
    fields_of 1 5 (field one 1) >>= λ fields.
    dependency_of width 5 1 fields
