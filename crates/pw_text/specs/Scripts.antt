-- Why bytes are no script, by what a line asks for.
use Rattle.std.specs.Prelude.{ℕ, suc, List, [], ◌∷◌, length, nat_lt, Option, Some, None, Result, Ok, Err, if◌then◌else◌}
use Rattle.pw_text.specs.declared.script.LineWhy.{LineWhy}
use Rattle.pw_text.specs.declared.script.ScriptFault.{ScriptFault}
use Rattle.pw_text.specs.declared.script.ScriptFault.TheVariants as faults
use Rattle.pw_text.specs.declared.script.TheConstants.{MOST_BYTES, MOST_LINES}
use Rattle.pw_text.specs.Fields.{lines_of}

-- # Lines one after the other, numbered from n on

abbrev pub fault_or : {W : Type 0} → ℕ → Result (Option W) LineWhy → Option ScriptFault → Option ScriptFault
fault_or n (Err why) rest = Some (faults.Line n why)
fault_or n (Ok wish) rest = rest

-- the first bad line, by what a line asks for
abbrev pub first_bad_by : {W : Type 0} → (List ℕ → Result (Option W) LineWhy) → ℕ → List (List ℕ) → Option ScriptFault
first_bad_by asks n [] = None
first_bad_by asks n (text ∷ texts) = fault_or n (asks text) (first_bad_by asks (suc n) texts)

-- # The whole script

-- why bytes are too long: they are too many, or have too many lines
abbrev pub too_long : List ℕ → Option ScriptFault
too_long bytes =
    if nat_lt MOST_BYTES (length bytes) then Some (faults.TooLong MOST_BYTES) else
    if nat_lt MOST_LINES (length (lines_of bytes)) then Some (faults.TooLong MOST_LINES) else
    None

-- why bytes are no script, by what a line asks for: too many bytes or lines, or a bad line
abbrev pub refused_by : {W : Type 0} → (List ℕ → Result (Option W) LineWhy) → List ℕ → Option ScriptFault
refused_by asks bytes =
    if nat_lt MOST_BYTES (length bytes) then Some (faults.TooLong MOST_BYTES) else
    if nat_lt MOST_LINES (length (lines_of bytes)) then Some (faults.TooLong MOST_LINES) else
    first_bad_by asks 1 (lines_of bytes)
