-- Whether a text is a whole one of a script of requests for performance, and else which line can't be one of it; of a printed history, and
-- of a trace of a running system.
use Rattle.std.specs.Prelude.{ℕ, List}
use Rattle.pw_cppc.specs.declared.plan.CppcPlan.{CppcPlan}
use Rattle.pw_cppc.specs.declared.request.CppcRequest.{CppcRequest}
use Rattle.pw_cppc_drive.specs.HistoryText.{performance_words}
use Rattle.pw_audit.specs.declared.answer.CppcAudit.{CppcAudit}
use Rattle.pw_audit.specs.declared.form.Form.{Form}
use Rattle.pw_audit.specs.Judging as any
use Rattle.pw_audit.specs.Tracing as traces

-- # Histories

-- Line k, counted from 1, is wrong: the first k lines aren't the first k lines of any whole text, and fewer of them are.
abbrev pub IsWrong : CppcPlan → List CppcRequest → List ℕ → ℕ → Type 0
IsWrong = any.IsWrong performance_words

-- No line is wrong, and yet the text isn't whole.
abbrev pub IsUnfinished : CppcPlan → List CppcRequest → List ℕ → Type 0
IsUnfinished = any.IsUnfinished performance_words

-- The text is that of this opening and these entries, which may come of the script; their seats are 0.
abbrev pub Shows : CppcPlan → List CppcRequest → List ℕ → CppcAudit → Type 0
Shows P asked text a = any.Shows performance_words P asked text a.opening a.entries

-- # Traces

-- The text is that of what may come of a script's lines.
abbrev pub IsWholeAs : Form → CppcPlan → List CppcRequest → List ℕ → Type 0
IsWholeAs = traces.IsWholeAs performance_words

-- These are the first lines of a whole text.
abbrev pub BeginsAs : Form → CppcPlan → List CppcRequest → List (List ℕ) → Type 0
BeginsAs = traces.BeginsAs performance_words

-- Line k, counted from 1, is wrong: the first k lines aren't the first k lines of any whole text, and fewer of them are.
abbrev pub IsWrongAs : Form → CppcPlan → List CppcRequest → List ℕ → ℕ → Type 0
IsWrongAs = traces.IsWrongAs performance_words

-- No line is wrong, and yet the text isn't whole.
abbrev pub IsUnfinishedAs : Form → CppcPlan → List CppcRequest → List ℕ → Type 0
IsUnfinishedAs = traces.IsUnfinishedAs performance_words

-- The text tells of this opening and these entries, which may come of the script; their seats are 0.
abbrev pub ShowsAs : Form → CppcPlan → List CppcRequest → List ℕ → CppcAudit → Type 0
ShowsAs form P asked text a = traces.ShowsAs performance_words form P asked text a.opening a.entries

-- The history's text has the entries of the trace, with the operations of the opening, and those of each entry in their
-- order.
abbrev pub IsSortedFrom : CppcPlan → List ℕ → List ℕ → Type 0
IsSortedFrom = traces.IsSortedFrom performance_words
