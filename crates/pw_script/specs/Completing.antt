-- The lines of a script that a history leaves.
use Rattle.std.specs.Prelude.{ℕ, List}
use Rattle.pw_history.specs.Asked as any
use Rattle.pw_plan.specs.declared.plan.Plan.{Plan}
use Rattle.pw_plan.specs.declared.request.Request.{Request}
use Rattle.pw_model.specs.declared.entry.HistoryEntry.{HistoryEntry}
use Rattle.pw_script.specs.HistoryText.{power_words}

-- these requests without the first of processor p
abbrev pub without_first : ℕ → List Request → List Request
without_first = any.without_first power_words

-- the lines that are left after a history, in their order
abbrev pub lines_left : List Request → List HistoryEntry → List Request
lines_left = any.left_after power_words

-- a history, and then the lines that it leaves, in their order
abbrev pub completed : List Request → List HistoryEntry → List HistoryEntry
completed = any.completed power_words

-- A legal history in which each processor's requests begin its lines'.
abbrev pub IsStart : Plan → List Request → List HistoryEntry → Type 0
IsStart = any.IsStart power_words
