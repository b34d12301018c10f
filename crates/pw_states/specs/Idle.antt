-- What is found of idle states (ACPI 6.5, 8.4.1.1 and 8.4.3.3).
use Rattle.std.specs.Prelude.{ℕ, ◌+◌, ◌==◌, ◌&&◌, ◌++◌, not, Bool, true, false, List, [], length, nat_lt, slice_index_or, Option, Some, None}
use Rattle.aml_data.specs.declared.path.FullPath.{FullPath}
use Rattle.acpi_values.specs.Idle.{rows_of}
use Rattle.acpi_values.specs.Null.{is_null}
use Rattle.acpi_values.specs.declared.idle.IdleKind.{IdleKind}
use Rattle.acpi_values.specs.declared.idle.IdleKind.TheVariants.{Lpi, Cst, Absent}
use Rattle.acpi_values.specs.declared.idle.IdleRow.{IdleRow}
use Rattle.acpi_values.specs.declared.idle.IdleTable.{IdleTable}
use Rattle.acpi_values.specs.declared.lpi.EntryMethod.{EntryMethod}
use Rattle.acpi_values.specs.declared.lpi.EntryMethod.TheVariants.{Register, Integer}
use Rattle.pw_plan.specs.declared.parts.CpuParts.{CpuParts}
use Rattle.pw_plan.specs.Parts.{no_row}
use Rattle.pw_findings.specs.declared.finding.Finding.{Finding}
use Rattle.pw_findings.specs.declared.finding.FindingKind.TheVariants as kinds
use Rattle.pw_findings.specs.declared.finding.OfEntry.TheVariants.{IntegerState, NullState, OtherCount}
use Rattle.pw_findings.specs.declared.finding.OfIdle.TheVariants.{LatencyFalls, ResidencyFalls}
use Rattle.pw_findings.specs.Findings.{finding, of_each, when}

-- # State by state

-- the row of this number, counted from 0; what is read past the end is never asked for
abbrev pub row_in : List IdleRow → ℕ → IdleRow
row_in rows k = slice_index_or rows k no_row

-- the state behind row k wakes sooner than that of row k
abbrev pub latency_falls : List IdleRow → ℕ → Bool
latency_falls rows k = nat_lt (k + 1) (length rows) && nat_lt (row_in rows (k + 1)).latency (row_in rows k).latency

abbrev pub falling : FullPath → List IdleRow → ℕ → List Finding
falling path rows k = when (latency_falls rows k)
    (finding path (kinds.Idle (LatencyFalls (k + 2) (row_in rows (k + 1)).latency (row_in rows k).latency)))

-- it is worth its cost sooner (ACPI 6.5, 8.4.3.3); C states don't say when they are
abbrev pub residency_falls : List IdleRow → ℕ → Bool
residency_falls rows k = nat_lt (k + 1) (length rows) && nat_lt (row_in rows (k + 1)).residency (row_in rows k).residency

abbrev pub shrinking : FullPath → List IdleRow → ℕ → List Finding
shrinking path rows k = when (residency_falls rows k)
    (finding path (kinds.Idle (ResidencyFalls (k + 2) (row_in rows (k + 1)).residency (row_in rows k).residency)))

abbrev pub is_cst : IdleKind → Bool
is_cst Lpi = false
is_cst Cst = true
is_cst Absent = false

-- whether a state is entered by the null register
abbrev pub has_null : EntryMethod → Bool
has_null (Register r) = is_null r
has_null (Integer n) = false

-- a C state is entered by a register
abbrev pub unentered : FullPath → IdleKind → List IdleRow → ℕ → List Finding
unentered path kind rows k = when (is_cst kind && has_null (row_in rows k).entry) (finding path (kinds.Entry (NullState (k + 1))))

abbrev pub state_findings : FullPath → IdleKind → List IdleRow → ℕ → List Finding
state_findings path kind rows k = unentered path kind rows k ++ (falling path rows k ++ shrinking path rows k)

-- what is found of the states of a table, one after the other
unfoldable pub idle_findings : FullPath → IdleTable → List Finding
idle_findings path table = of_each (length (rows_of table)) (state_findings path table.kind (rows_of table))

-- # Processor by processor

abbrev pub has_cst : CpuParts → Bool
has_cst c = is_cst c.idle.kind

abbrev pub state_count : CpuParts → ℕ
state_count c = length (rows_of c.idle)

-- how many C states a processor has, beside the first that has any
abbrev pub counted : CpuParts → Option CpuParts → List Finding
counted c None = []
counted c (Some first) = when (has_cst c && not (state_count c == state_count first))
    (finding c.path (kinds.Entry (OtherCount (state_count c) first.path (state_count first))))

-- whether a state has an integer for its entry, which is added to the address of the register of a state below
abbrev pub has_integer : EntryMethod → Bool
has_integer (Register r) = false
has_integer (Integer n) = true

-- a processor's own state, which has none below
abbrev pub summed : FullPath → List IdleRow → ℕ → List Finding
summed path rows k = when (has_integer (row_in rows k).entry) (finding path (kinds.Entry (IntegerState (k + 1))))

unfoldable pub integer_findings : FullPath → IdleTable → List Finding
integer_findings path table = of_each (length (rows_of table)) (summed path (rows_of table))
