-- What is found of continuous performance control (ACPI 6.5, 8.4.6.1).
use Rattle.std.specs.Prelude.{ℕ, ◌==◌, ◌&&◌, ◌||◌, ◌++◌, not, Bool, true, false, List, [], nat_lt, is_none, slice_get, Option, Some, None}
use Rattle.aml_data.specs.declared.path.FullPath.{FullPath}
use Rattle.acpi_values.specs.Null.{is_null}
use Rattle.acpi_values.specs.declared.performance.Cpc.{Cpc}
use Rattle.acpi_values.specs.declared.performance.CpcEntry.{CpcEntry}
use Rattle.acpi_values.specs.declared.performance.CpcEntry.TheVariants.{Number, Register}
use Rattle.pw_findings.specs.declared.finding.Finding.{Finding}
use Rattle.pw_findings.specs.declared.finding.FindingKind.TheVariants as kinds
use Rattle.pw_findings.specs.declared.finding.OfCpc.TheVariants.{Disorder, NoRange, NoDesired}
use Rattle.pw_findings.specs.Findings.{finding, when}
use Rattle.pw_states.specs.declared.cpcs.Range.{Range}

-- the number of an element, where it is one
abbrev pub number_of : Option CpcEntry → Option ℕ
number_of None = None
number_of (Some (Number n)) = Some n
number_of (Some (Register r)) = None

-- a level of performance, by its place behind the first two elements: 0 highest, 1 nominal, 2 lowest nonlinear, 3 lowest
abbrev pub level : Cpc → ℕ → Option ℕ
level cpc k = number_of (slice_get cpc.entries k)

-- from the lowest to the highest performance, where both are numbers
abbrev pub range_between : Option ℕ → Option ℕ → Option Range
range_between None highest = None
range_between (Some lowest) None = None
range_between (Some lowest) (Some highest) = Some (record { lowest = lowest; highest = highest })

abbrev pub range_of : Cpc → Option Range
range_of cpc = range_between (level cpc 3) (level cpc 0)

-- whether one goes from or to another level
abbrev pub are_apart : Option Range → Option Range → Bool
are_apart None s = false
are_apart (Some r) None = false
are_apart (Some r) (Some s) = not ((r.lowest == s.lowest) && (r.highest == s.highest))

-- the lower of two levels has the greater number
abbrev pub crossed : FullPath → ℕ → Option ℕ → ℕ → Option ℕ → List Finding
crossed path upper None lower m = []
crossed path upper (Some n) lower None = []
crossed path upper (Some n) lower (Some m) = when (nat_lt n m) (finding path (kinds.Cpc (Disorder upper n lower m)))

abbrev pub disorder : FullPath → Cpc → ℕ → ℕ → List Finding
disorder path cpc upper lower = crossed path upper (level cpc upper) lower (level cpc lower)

-- whether the highest or the lowest level is no number
abbrev pub is_open : Cpc → Bool
is_open cpc = is_none (level cpc 0) || is_none (level cpc 3)

-- whether an element is no register, or the null register
abbrev pub is_no_register : Option CpcEntry → Bool
is_no_register None = true
is_no_register (Some (Number n)) = true
is_no_register (Some (Register r)) = is_null r

-- what is found of `_CPC`: levels next to one another that are out of order, the lowest above the highest, a range that isn't
-- known, no register for desired performance
abbrev pub of_cpc : FullPath → Cpc → List Finding
of_cpc path cpc =
    disorder path cpc 0 1 ++ (disorder path cpc 1 2 ++ (disorder path cpc 2 3 ++ (disorder path cpc 0 3
    ++ (when (is_open cpc) (finding path (kinds.Cpc NoRange))
    ++ when (is_no_register (slice_get cpc.entries 5)) (finding path (kinds.Cpc NoDesired))))))

unfoldable pub cpc_findings : FullPath → Option Cpc → List Finding
cpc_findings path None = []
cpc_findings path (Some cpc) = of_cpc path cpc
