-- What the text of a history and a trace of a running system have of a history of processor power, by the words of `Tracing.antt`.
use Rattle.std.specs.Prelude.{ℕ, List, Option}
use Rattle.acpi_values.specs.declared.operation.Op.{Op}
use Rattle.pw_plan.specs.declared.plan.Plan.{Plan}
use Rattle.pw_plan.specs.declared.request.Request.{Request}
use Rattle.pw_model.specs.declared.entry.HistoryEntry.{HistoryEntry}
use Rattle.pw_model.specs.declared.state.State.{State}
use Rattle.pw_script.specs.HistoryText.{power_words}
use Rattle.pw_audit.specs.declared.answer.Audit.{Audit}
use Rattle.pw_audit.specs.declared.form.Form.{Form}
use Rattle.pw_audit.specs.Tracing as any

-- # Operations

-- the processor that an operation is on
abbrev pub op_cpu : Op → ℕ
op_cpu = any.op_cpu

-- the operations on processor p
abbrev pub ops_on : ℕ → List Op → List Op
ops_on = any.ops_on

-- On each processor they are the same operations, in the same order.
abbrev pub AreSameOnEach : List Op → List Op → Type 0
AreSameOnEach = any.AreSameOnEach

-- the lines of an entry's operations
abbrev pub TellsOps : Form → Plan → List Op → List (List ℕ) → Type 0
TellsOps = any.TellsOps power_words

-- # Lines

-- those of the entries from n on, asked in state S
abbrev pub Tells : Form → Plan → State → ℕ → List HistoryEntry → List (List ℕ) → Type 0
Tells = any.Tells power_words

-- those of the opening; those of a trace may be the line `open` alone
abbrev pub Opens : Form → Plan → Option ℕ → List (List ℕ) → Type 0
Opens = any.Opens power_words

-- # Texts

-- The text tells of an opening and these entries.
abbrev pub TextTells : Form → Plan → Option ℕ → List HistoryEntry → List ℕ → Type 0
TextTells = any.TextTells power_words

-- The text is that of what may come of a script's lines.
abbrev pub IsWholeAs : Form → Plan → List Request → List ℕ → Type 0
IsWholeAs = any.IsWholeAs power_words

-- These are the first lines of a whole text.
abbrev pub BeginsAs : Form → Plan → List Request → List (List ℕ) → Type 0
BeginsAs = any.BeginsAs power_words

-- Line k, counted from 1, is wrong: the first k lines aren't the first k lines of any whole text, and fewer of them are.
abbrev pub IsWrongAs : Form → Plan → List Request → List ℕ → ℕ → Type 0
IsWrongAs = any.IsWrongAs power_words

-- No line is wrong, and yet the text isn't whole.
abbrev pub IsUnfinishedAs : Form → Plan → List Request → List ℕ → Type 0
IsUnfinishedAs = any.IsUnfinishedAs power_words

-- The text tells of this opening and these entries, which may come of the script; their seats are 0.
abbrev pub ShowsAs : Form → Plan → List Request → List ℕ → Audit → Type 0
ShowsAs form P asked text a = any.ShowsAs power_words form P asked text a.opening a.entries

-- # What a trace is to a history

-- The history's text has the entries of the trace, with the operations of the opening, and those of each entry in their
-- order.
abbrev pub IsSortedFrom : Plan → List ℕ → List ℕ → Type 0
IsSortedFrom = any.IsSortedFrom power_words
