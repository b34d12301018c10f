-- The history or the trace in a file: a whole text that a script allows, or why it is none, and the line that says so.
use Rattle.std.specs.Prelude.{ℕ, List, [], ◌∷◌, codes, decimal}
use Rattle.pw_base.specs.Seen.{FilesSeen}
use Rattle.pw_plan.specs.declared.plan.Plan.{Plan}
use Rattle.pw_plan.specs.declared.request.Request.{Request}
use Rattle.pw_text.specs.Lines.{line_of}
use Rattle.pw_script.specs.HistoryText.{power_words}
use Rattle.pw_audit.specs.declared.answer.AuditFault.{AuditFault}
use Rattle.pw_audit.specs.declared.answer.AuditFault.TheVariants.{TooLong, Wrong, Unfinished, Memory}
use Rattle.pw_audit.specs.declared.form.Form.{Form}
use Rattle.pw_runs.specs.Texts as any

-- # What bytes are

-- Bytes are the whole text of what may come of a script's lines, a history or a trace of it, with so many entries.
abbrev pub IsText : Form → Plan → List Request → List ℕ → ℕ → Type 0
IsText = any.IsText power_words

-- Bytes are no such text: they are too many, or a line is wrong, or they end before the text does.
abbrev pub IsNoText : Form → Plan → List Request → List ℕ → AuditFault → Type 0
IsNoText = any.IsNoText power_words

-- # What is held under its name, where files tell

abbrev pub HoldText : Form → FilesSeen → List ℕ → Plan → List Request → ℕ → Type 0
HoldText = any.HoldText power_words

abbrev pub HoldNoText : Form → FilesSeen → List ℕ → Plan → List Request → AuditFault → Type 0
HoldNoText = any.HoldNoText power_words

-- # The lines

-- the line on the output
abbrev pub lawful_line : ℕ → List ℕ
lawful_line entries = line_of (codes "lawful" ∷ codes "entries" ∷ decimal entries ∷ [])

-- the line on the error output
abbrev pub history_line : AuditFault → List ℕ
history_line (TooLong bound) = line_of (codes "history:" ∷ codes "longer" ∷ codes "than" ∷ decimal bound ∷ [])
history_line (Wrong line) = line_of (codes "history:" ∷ codes "line" ∷ decimal line ∷ [])
history_line (Unfinished lines) = line_of (codes "history:" ∷ codes "ends" ∷ codes "after" ∷ decimal lines ∷ codes "lines" ∷ [])
history_line Memory = codes "no memory\n"

-- the status where there is none
abbrev pub history_status : AuditFault → ℕ
history_status (TooLong bound) = 8
history_status (Wrong line) = 8
history_status (Unfinished lines) = 8
history_status Memory = 6
