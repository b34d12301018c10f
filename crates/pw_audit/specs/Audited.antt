-- Whether a text is a whole one of a script, and else which line can't be one of it.
use Rattle.std.specs.Prelude.{ℕ, List}
use Rattle.pw_plan.specs.declared.plan.Plan.{Plan}
use Rattle.pw_plan.specs.declared.request.Request.{Request}
use Rattle.pw_script.specs.HistoryText.{power_words}
use Rattle.pw_audit.specs.declared.answer.Audit.{Audit}
use Rattle.pw_audit.specs.Judging as any

-- no more bytes than an audit reads
abbrev pub IsShort : List ℕ → Type 0
IsShort = any.IsShort

-- Line k, counted from 1, is wrong: the first k lines aren't the first k lines of any whole text, and fewer of them are.
abbrev pub IsWrong : Plan → List Request → List ℕ → ℕ → Type 0
IsWrong = any.IsWrong power_words

-- No line is wrong, and yet the text isn't whole.
abbrev pub IsUnfinished : Plan → List Request → List ℕ → Type 0
IsUnfinished = any.IsUnfinished power_words

-- The text is that of this opening and these entries, which may come of the script; their seats are 0.
abbrev pub Shows : Plan → List Request → List ℕ → Audit → Type 0
Shows P asked text a = any.Shows power_words P asked text a.opening a.entries
