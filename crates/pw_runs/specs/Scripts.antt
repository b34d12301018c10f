-- The script in a file: its lines, or why it is none, and the line that says so.
use Rattle.std.specs.Prelude.{◌≡◌, ◌<◌, ◌≤◌, ℕ, Bool, true, false, List, [], ◌∷◌, codes, decimal, Option, Some, None}
use Rattle.pw_plan.specs.declared.plan.Plan.{Plan}
use Rattle.pw_governor.specs.Choices.{choice}
use Rattle.pw_notice.specs.Handling.{followed, stepped}
use Rattle.pw_notice.specs.Limits.{answer_by}
use Rattle.pw_text.specs.Lines.{line_of}
use Rattle.pw_text.specs.declared.script.LineWhy.{LineWhy}
use Rattle.pw_text.specs.declared.script.LineWhy.TheVariants.{Grammar, Processor, Number}
use Rattle.pw_text.specs.declared.script.ScriptFault.{ScriptFault}
use Rattle.pw_text.specs.declared.script.ScriptFault.TheVariants.{TooLong, Line, Memory}
use Rattle.pw_text.specs.declared.script.TheConstants.{MOST_OPERATIONS}
use Rattle.pw_text.specs.Fields.{lines_of}
use Rattle.pw_script.specs.declared.script.Line.{Line as line}
use Rattle.pw_script.specs.Reading.{AreLines, Answered, Chosen, operations, refused}

-- the limit that is to stand after a notification: the platform's value, or one step towards it
abbrev pub limit_by : (step : Bool) → ℕ → ℕ → ℕ → ℕ
limit_by true count current value = stepped count current value
limit_by false count current value = followed count value

-- the lines of a script's bytes: the deepest state that suits a processor is chosen, and notifications move limits so
abbrev pub AreLinesIn : Plan → Bool → List ℕ → List line → Type 0
AreLinesIn P step bytes lines = AreLines P (Chosen choice) (Answered (answer_by (limit_by step) (limit_by step))) [] 1
    (lines_of bytes) lines

-- Bytes are a script of these lines.
pub record IsScript (P : Plan) (step : Bool) (bytes : List ℕ) (lines : List line) : Type 0 where
  pub good : refused P bytes ≡ None
  pub lines_are : AreLinesIn P step bytes lines
  pub few : operations P lines ≤ MOST_OPERATIONS

-- Bytes are no script: for what they are, or since too many operations may come of their lines.
pub data IsNoScript (P : Plan) (step : Bool) (bytes : List ℕ) : ScriptFault → Type 0 where
  bad : {fault : ScriptFault} → refused P bytes ≡ Some fault → IsNoScript P step bytes fault
  too_much : (lines : List line) → refused P bytes ≡ None → AreLinesIn P step bytes lines → MOST_OPERATIONS < operations P lines
      → IsNoScript P step bytes (TooLong MOST_OPERATIONS)

-- # What is held under its name

pub record HoldsScript (held : Option (List ℕ)) (P : Plan) (step : Bool) (lines : List line) : Type 0 where
  pub bytes : List ℕ
  pub is : held ≡ Some bytes
  pub reads : IsScript P step bytes lines

pub record HoldsNoScript (held : Option (List ℕ)) (P : Plan) (step : Bool) (fault : ScriptFault) : Type 0 where
  pub bytes : List ℕ
  pub is : held ≡ Some bytes
  pub fails : IsNoScript P step bytes fault

-- # The line on the error output

-- why a line is bad
abbrev pub why_word : LineWhy → List ℕ
why_word Grammar = codes "grammar"
why_word Processor = codes "processor"
why_word Number = codes "number"

abbrev pub script_line : ScriptFault → List ℕ
script_line (TooLong bound) = line_of (codes "script:" ∷ codes "longer" ∷ codes "than" ∷ decimal bound ∷ [])
script_line (Line number why) = line_of (codes "script:" ∷ codes "line" ∷ decimal number ∷ why_word why ∷ [])
script_line Memory = codes "no memory\n"

-- the status where there is no script
abbrev pub script_status : ScriptFault → ℕ
script_status (TooLong bound) = 7
script_status (Line number why) = 7
script_status Memory = 6
