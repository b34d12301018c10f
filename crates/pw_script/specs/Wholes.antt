-- Whole texts, and the lines that begin one.
use Rattle.std.specs.Prelude.{ℕ, List, Option}
use Rattle.pw_history.specs.Wholes as any
use Rattle.pw_history.specs.HistoryText as texts
use Rattle.pw_plan.specs.declared.plan.Plan.{Plan}
use Rattle.pw_plan.specs.declared.request.Request.{Request}
use Rattle.pw_model.specs.declared.entry.HistoryEntry.{HistoryEntry}
use Rattle.pw_model.specs.declared.state.State.{State}
use Rattle.pw_script.specs.HistoryText.{power_words}

-- The lines of a text, each with its line feed, and what follows the last line feed, unless that is empty.
abbrev pub pieces_of : List ℕ → List (List ℕ)
pieces_of = any.pieces_of

-- It has its line feed.
abbrev pub HasFeed : List ℕ → Type 0
HasFeed = any.HasFeed

-- The text is that of what may come of a script's lines.
abbrev pub IsWhole : Plan → List Request → List ℕ → Type 0
IsWhole = any.IsWhole power_words

-- These are the first lines of a whole text.
abbrev pub BeginsWhole : Plan → List Request → List (List ℕ) → Type 0
BeginsWhole = any.BeginsWhole power_words

-- an opening that a fault ended, or a start
abbrev pub Starts : Plan → List Request → Option ℕ → List HistoryEntry → Type 0
Starts = any.Starts power_words

-- These are the first lines of one of them.
abbrev pub BeginsStart : Plan → List Request → List (List ℕ) → Type 0
BeginsStart = any.BeginsStart power_words

-- the line of entry n, asked in state S
abbrev pub entry_line : Plan → State → ℕ → HistoryEntry → List ℕ
entry_line = texts.entry_line power_words

-- the line of an entry behind a history
abbrev pub next_line : Plan → List HistoryEntry → HistoryEntry → List ℕ
next_line = any.next_line power_words

-- the lines of its operations
abbrev pub next_op_lines : Plan → List HistoryEntry → HistoryEntry → List (List ℕ)
next_op_lines = any.next_op_lines power_words

-- the lines of a history, and that of an entry behind it with the first j of its operations
abbrev pub lines_within : Plan → List HistoryEntry → HistoryEntry → ℕ → List (List ℕ)
lines_within = any.lines_within power_words

-- An entry with this line goes on with this history.
abbrev pub GoesOnWith : Plan → List Request → List HistoryEntry → List ℕ → Type 0
GoesOnWith = any.GoesOnWith power_words

-- that a fault ended the opening after fewer operations than it has
abbrev pub IsFaultLine : Plan → List ℕ → Type 0
IsFaultLine = any.IsFaultLine power_words

-- the line `open`, or that of a fault in the opening
abbrev pub IsFirstLine : Plan → List ℕ → Type 0
IsFirstLine = any.IsFirstLine power_words
