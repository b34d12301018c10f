-- Whole texts of requests for performance, and the lines that begin one.
use Rattle.std.specs.Prelude.{ℕ, List, Option}
use Rattle.pw_history.specs.Asked as asked
use Rattle.pw_history.specs.HistoryText as texts
use Rattle.pw_history.specs.Wholes as any
use Rattle.pw_cppc.specs.declared.plan.CppcPlan.{CppcPlan}
use Rattle.pw_cppc.specs.declared.request.CppcRequest.{CppcRequest}
use Rattle.pw_cppc.specs.declared.entry.CppcEntry.{CppcEntry}
use Rattle.pw_cppc_drive.specs.HistoryText.{performance_words}
use Rattle.pw_cppc_drive.specs.Telling.{IsNarrowRequest}

-- # Requests and histories

-- Their processors exist, and their numbers are of 32 bits.
abbrev pub CanBeAsked : CppcPlan → List CppcRequest → Type 0
CanBeAsked = asked.CanBeAsked performance_words IsNarrowRequest

-- A history of the requests: each processor's are a beginning of its own ones, all of them where no entry is a fault.
abbrev pub IsRunOf : CppcPlan → List CppcRequest → List CppcEntry → Type 0
IsRunOf = asked.IsRunOf performance_words

-- an opening that a fault ended, or such a history
abbrev pub MayCome : CppcPlan → List CppcRequest → Option ℕ → List CppcEntry → Type 0
MayCome = asked.Lawful performance_words

-- A legal history in which each processor's requests begin its own ones.
abbrev pub IsStart : CppcPlan → List CppcRequest → List CppcEntry → Type 0
IsStart = asked.IsStart performance_words

-- a history, and then the requests that it leaves, in their order
abbrev pub completed : List CppcRequest → List CppcEntry → List CppcEntry
completed = asked.completed performance_words

-- # Texts

abbrev pub opening_lines : CppcPlan → Option ℕ → List (List ℕ)
opening_lines = texts.opening_lines performance_words

-- The text is that of what may come of the requests.
abbrev pub IsWhole : CppcPlan → List CppcRequest → List ℕ → Type 0
IsWhole = any.IsWhole performance_words

-- These are the first lines of a whole text.
abbrev pub BeginsWhole : CppcPlan → List CppcRequest → List (List ℕ) → Type 0
BeginsWhole = any.BeginsWhole performance_words

-- These are the first lines of an opening that a fault ended, or of a start.
abbrev pub BeginsStart : CppcPlan → List CppcRequest → List (List ℕ) → Type 0
BeginsStart = any.BeginsStart performance_words

-- the lines of the operations of an entry behind a history
abbrev pub next_op_lines : CppcPlan → List CppcEntry → CppcEntry → List (List ℕ)
next_op_lines = any.next_op_lines performance_words

-- the lines of a history, and that of an entry behind it with the first j of its operations
abbrev pub lines_within : CppcPlan → List CppcEntry → CppcEntry → ℕ → List (List ℕ)
lines_within = any.lines_within performance_words

-- An entry with this line goes on with this history.
abbrev pub GoesOnWith : CppcPlan → List CppcRequest → List CppcEntry → List ℕ → Type 0
GoesOnWith = any.GoesOnWith performance_words

-- the line `open`, or that of a fault in the opening
abbrev pub IsFirstLine : CppcPlan → List ℕ → Type 0
IsFirstLine = any.IsFirstLine performance_words
