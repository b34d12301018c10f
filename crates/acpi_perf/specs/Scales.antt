-- Performance and throttling states (ACPI 6.5, 8.4.5.2 and 8.4.4.2).
use Rattle.std.specs.Prelude.{ℕ, List, Ok}
use Rattle.aml_data.specs.declared.data.Data.{Data}
use Rattle.aml_data.specs.declared.data.Width.{Width}
use Rattle.acpi_values.specs.declared.performance.PState.{PState}
use Rattle.acpi_values.specs.declared.performance.TState.{TState}
use Rattle.pw_base.specs.Answers.{◌>>=◌}
use Rattle.acpi_fields.specs.Reading.{Read, place, elements_at, fields_of, number_of, rows_from, most_32}

-- a performance state: element k is a package of six numbers of 32 bits
abbrev pub pss_row : Width → ℕ → Data → Read PState
pss_row width k object =
    fields_of k 6 object >>= λ fields.
    number_of width most_32 k 1 fields >>= λ frequency.
    number_of width most_32 k 2 fields >>= λ power.
    number_of width most_32 k 3 fields >>= λ latency.
    number_of width most_32 k 4 fields >>= λ bus_latency.
    number_of width most_32 k 5 fields >>= λ control.
    number_of width most_32 k 6 fields >>= λ status.
    Ok (record { frequency = frequency; power = power; latency = latency; bus_latency = bus_latency; control = control; status = status })

-- `_PSS`: a package of performance states
unfoldable pub pss_of : Width → Data → Read (List PState)
pss_of width object = elements_at (place 0 0) object >>= λ elements. rows_from (pss_row width) 1 elements

-- a throttling state: element k is a package of five numbers of 32 bits
abbrev pub tss_row : Width → ℕ → Data → Read TState
tss_row width k object =
    fields_of k 5 object >>= λ fields.
    number_of width most_32 k 1 fields >>= λ percent.
    number_of width most_32 k 2 fields >>= λ power.
    number_of width most_32 k 3 fields >>= λ latency.
    number_of width most_32 k 4 fields >>= λ control.
    number_of width most_32 k 5 fields >>= λ status.
    Ok (record { percent = percent; power = power; latency = latency; control = control; status = status })

-- `_TSS`: a package of throttling states
unfoldable pub tss_of : Width → Data → Read (List TState)
tss_of width object = elements_at (place 0 0) object >>= λ elements. rows_from (tss_row width) 1 elements
