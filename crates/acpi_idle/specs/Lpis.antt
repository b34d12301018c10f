-- Low power idle states (ACPI 6.5, 8.4.3.3).
use Rattle.std.specs.Prelude.{◌==◌, ◌-◌, ℕ, length, drop, Option, Some, None, Ok, Err, if◌then◌else◌}
use Rattle.aml_data.specs.Meaning.{meaning}
use Rattle.aml_data.specs.declared.data.Data.{Data}
use Rattle.aml_data.specs.declared.data.Width.{Width}
use Rattle.acpi_values.specs.declared.fault.Place.{Place}
use Rattle.acpi_values.specs.declared.fault.Why.TheVariants.{Revision}
use Rattle.acpi_values.specs.declared.lpi.EntryMethod.{EntryMethod}
use Rattle.acpi_values.specs.declared.lpi.EntryMethod.TheVariants as entry
use Rattle.acpi_values.specs.declared.lpi.Lpi.{Lpi}
use Rattle.acpi_values.specs.declared.lpi.LpiState.{LpiState}
use Rattle.acpi_values.specs.declared.register.Register.{Register}
use Rattle.acpi_values.specs.Null.{null_register}
use Rattle.pw_base.specs.Answers.{◌>>=◌}
use Rattle.acpi_fields.specs.Reading.{Read, shape, place, count_at, field, fields_of, integer_at, number_of, register_at, rows_from, text_at, whole_of, most_32, most_64}

abbrev pub entry_by : Place → Data → Option ℕ → Read EntryMethod
entry_by at object (Some n) = Ok (entry.Integer n)
entry_by at object None = register_at at object >>= λ r. Ok (entry.Register r)

-- an entry method: an integer or a register
abbrev pub entry_at : Width → Place → Data → Read EntryMethod
entry_at width at object = entry_by at object (meaning object width)

abbrev pub counter_by : Place → Data → Option ℕ → Read Register
counter_by at object (Some n) = Ok null_register
counter_by at object None = register_at at object

-- a counter: a register, or an integer, which stands for none
abbrev pub counter_at : Width → Place → Data → Read Register
counter_at width at object = counter_by at object (meaning object width)

-- a low power idle state: element k is a package of six numbers of 32 bits, the entry method, the two counters, and the
-- state's name
abbrev pub lpi_row : Width → ℕ → Data → Read LpiState
lpi_row width k object =
    fields_of k 10 object >>= λ fields.
    number_of width most_32 k 1 fields >>= λ min_residency.
    number_of width most_32 k 2 fields >>= λ wake_latency.
    number_of width most_32 k 3 fields >>= λ flags.
    number_of width most_32 k 4 fields >>= λ lost.
    number_of width most_32 k 5 fields >>= λ frequency.
    number_of width most_32 k 6 fields >>= λ parent.
    entry_at width (place k 7) (field fields 7) >>= λ entry.
    counter_at width (place k 8) (field fields 8) >>= λ residency.
    counter_at width (place k 9) (field fields 9) >>= λ usage.
    text_at (place k 10) (field fields 10) >>= λ name.
    Ok (record {
      min_residency = min_residency;
      wake_latency = wake_latency;
      flags = flags;
      lost = lost;
      frequency = frequency;
      parent = parent;
      entry = entry;
      residency = residency;
      usage = usage;
      name = name;
    })

-- the revision, which is to be 0
abbrev pub revision_at : Width → Data → Read ℕ
revision_at width object =
    integer_at width most_64 (place 1 0) object >>= λ n. if n == 0 then Ok n else Err (shape (place 1 0) Revision)

-- `_LPI`: the revision, the level, how many states there are, and then these
unfoldable pub lpi_of : Width → Data → Read Lpi
lpi_of width object =
    whole_of 3 object >>= λ elements.
    revision_at width (field elements 1) >>= λ _.
    integer_at width most_64 (place 2 0) (field elements 2) >>= λ level.
    count_at width 3 (length elements - 3) (field elements 3) >>= λ _.
    rows_from (lpi_row width) 4 (drop 3 elements) >>= λ states.
    Ok (record { level = level; states = states })
