-- Continuous performance control (ACPI 6.5, 8.4.6.1).
use Rattle.std.specs.Prelude.{◌==◌, ℕ, drop, Option, Some, None, Ok, Err, if◌then◌else◌}
use Rattle.aml_data.specs.Meaning.{meaning}
use Rattle.aml_data.specs.declared.data.Data.{Data}
use Rattle.aml_data.specs.declared.data.Width.{Width}
use Rattle.acpi_values.specs.declared.fault.Why.TheVariants.{Count, Revision}
use Rattle.acpi_values.specs.declared.performance.Cpc.{Cpc}
use Rattle.acpi_values.specs.declared.performance.CpcEntry.{CpcEntry}
use Rattle.acpi_values.specs.declared.performance.CpcEntry.TheVariants.{Number, Register}
use Rattle.pw_base.specs.Answers.{◌>>=◌}
use Rattle.acpi_fields.specs.Reading.{Read, shape, place, counted, field, integer_at, register_at, rows_from, whole_of, most_64}

-- how many elements there are in a revision: 21 in revision 2, 23 in revision 3, and others aren't known
abbrev pub element_count : ℕ → Read ℕ
element_count revision =
    if revision == 2 then Ok 21
    else (if revision == 3 then Ok 23
    else Err (shape (place 2 0) Revision))

-- the first element, which is to be how many elements there are
abbrev pub num_entries : ℕ → ℕ → Read ℕ
num_entries wanted n = if n == wanted then Ok n else Err (shape (place 1 0) Count)

abbrev pub entry_by : ℕ → Data → Option ℕ → Read CpcEntry
entry_by k object (Some n) = Ok (Number n)
entry_by k object None = register_at (place k 0) object >>= λ r. Ok (Register r)

-- element k: an integer or a register
abbrev pub entry_at : Width → ℕ → Data → Read CpcEntry
entry_at width k object = entry_by k object (meaning object width)

-- `_CPC`: how many elements there are, the revision, and then the others. The kinds of the first two are tested before
-- their values
unfoldable pub cpc_of : Width → Data → Read Cpc
cpc_of width object =
    whole_of 2 object >>= λ elements.
    integer_at width most_64 (place 1 0) (field elements 1) >>= λ n.
    integer_at width most_64 (place 2 0) (field elements 2) >>= λ revision.
    element_count revision >>= λ wanted.
    num_entries wanted n >>= λ _.
    counted (place 0 0) wanted elements >>= λ _.
    rows_from (entry_at width) 3 (drop 2 elements) >>= λ entries.
    Ok (record { revision = revision; entries = entries })
