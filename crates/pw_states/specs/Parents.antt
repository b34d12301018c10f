-- What is found between idle states and those of the container around them (ACPI 6.5, 8.4.3.3).
use Rattle.std.specs.Prelude.{ℕ, ◌+◌, ◌-◌, ◌^◌, ◌&&◌, ◌++◌, not, Bool, false, List, [], ◌∷◌, length, nat_le, nat_lt, position, slice_get, take, Option, Some, None, if◌then◌else◌}
use Rattle.std.specs.List.{list_any}
use Rattle.aml_data.specs.declared.path.FullPath.{FullPath}
use Rattle.acpi_values.specs.Idle.{rows_of}
use Rattle.acpi_values.specs.declared.idle.IdleRow.{IdleRow}
use Rattle.acpi_values.specs.declared.idle.IdleTable.{IdleTable}
use Rattle.acpi_values.specs.declared.lpi.EntryMethod.{EntryMethod}
use Rattle.acpi_values.specs.declared.lpi.EntryMethod.TheVariants.{Register, Integer}
use Rattle.pw_plan.specs.declared.parts.ContainerParts.{ContainerParts}
use Rattle.pw_findings.specs.declared.finding.Finding.{Finding}
use Rattle.pw_findings.specs.declared.finding.FindingKind.TheVariants as kinds
use Rattle.pw_findings.specs.declared.finding.OfParent.TheVariants.{Past, Absent, Unreached, Overflows}
use Rattle.pw_findings.specs.Findings.{finding, of_each, when}
use Rattle.pw_states.specs.Idle.{row_in}

-- the container of this number
abbrev pub around : List ContainerParts → Option ℕ → Option ContainerParts
around containers None = None
around containers (Some n) = slice_get containers n

abbrev pub count_in : ContainerParts → ℕ
count_in c = length (rows_of c.idle)

-- row k enables a state of a container, and there is none around
abbrev pub nowhere : FullPath → List IdleRow → ℕ → List Finding
nowhere path rows k = when (nat_lt 0 (row_in rows k).parent) (finding path (kinds.Parent (Absent (k + 1) (row_in rows k).parent)))

-- row k enables a state that the container around doesn't have
abbrev pub past : FullPath → ContainerParts → List IdleRow → ℕ → List Finding
past path c rows k = when (nat_lt (count_in c) (row_in rows k).parent)
    (finding path (kinds.Parent (Past (k + 1) (row_in rows k).parent c.path (count_in c))))

abbrev pub past_findings : FullPath → Option ContainerParts → List IdleRow → List Finding
past_findings path None rows = of_each (length rows) (nowhere path rows)
past_findings path (Some c) rows = of_each (length rows) (past path c rows)

-- whether a state may be entered, and enables state n of the container
abbrev pub enables : ℕ → IdleRow → Bool
enables n row = row.enabled && nat_le n row.parent

-- the container has states, and none of these enables its deepest one: it never enters that
abbrev pub unreached : FullPath → Option ContainerParts → List IdleRow → List Finding
unreached path None rows = []
unreached path (Some c) rows = when (nat_lt 0 (count_in c) && not (list_any (enables (count_in c)) rows))
    (finding path (kinds.Parent (Unreached c.path (count_in c))))

-- where `_LPI` is a method or an alias, which states there are isn't known
abbrev pub unreached_where : Bool → FullPath → Option ContainerParts → List IdleRow → List Finding
unreached_where known path parent rows = if known then unreached path parent rows else []

-- the number by which a state is entered: the address of its register, or what it adds to that of a state below
abbrev pub number_of : EntryMethod → ℕ
number_of (Register r) = r.address
number_of (Integer n) = n

-- whether a state adds so much to a number that the sum has more than 64 bits; a register takes the place of what is below
abbrev pub overflows : ℕ → EntryMethod → Bool
overflows number (Register r) = false
overflows number (Integer n) = nat_lt (2 ^ 64 - 1) (number + n)

-- the first of the first n states of a container that does so, counted from 0
abbrev pub first_over : ContainerParts → ℕ → ℕ → Option ℕ
first_over c number n = position (λ (r : IdleRow). overflows number r.entry) (take n (rows_of c.idle))

-- the first that a row enables and that does so to its number
abbrev pub overflowing : ContainerParts → IdleRow → Option ℕ
overflowing c row = first_over c (number_of row.entry) row.parent

abbrev pub sum_amiss : FullPath → ContainerParts → IdleRow → ℕ → Option ℕ → List Finding
sum_amiss path c row k None = []
sum_amiss path c row k (Some j) =
    finding path (kinds.Parent (Overflows (k + 1) (number_of row.entry) (j + 1) c.path (number_of (row_in (rows_of c.idle) j).entry))) ∷ []

abbrev pub sum_at : FullPath → ContainerParts → List IdleRow → ℕ → List Finding
sum_at path c rows k = sum_amiss path c (row_in rows k) k (overflowing c (row_in rows k))

abbrev pub sum_findings : FullPath → Option ContainerParts → List IdleRow → List Finding
sum_findings path None rows = []
sum_findings path (Some c) rows = of_each (length rows) (sum_at path c rows)

-- what is found of the idle states at a path, which are known or not, beside the container around them
unfoldable pub parent_findings : FullPath → Bool → Option ContainerParts → IdleTable → List Finding
parent_findings path known parent table =
    past_findings path parent (rows_of table)
    ++ (unreached_where known path parent (rows_of table) ++ sum_findings path parent (rows_of table))
