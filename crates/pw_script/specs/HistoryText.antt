-- The printed text of a history.
use Rattle.std.specs.Prelude.{◌==◌, ℕ, List, [], ◌∷◌, map, take, length, codes, decimal, Option, if◌then◌else◌}
use Rattle.acpi_values.specs.declared.operation.Chain.{Chain}
use Rattle.acpi_values.specs.declared.operation.Op.{Op}
use Rattle.pw_text.specs.Text.{place_text}
use Rattle.pw_history.specs.HistoryText as texts
use Rattle.pw_history.specs.Wording.{Wording}
use Rattle.pw_plan.specs.declared.plan.Plan.{Plan}
use Rattle.pw_plan.specs.declared.request.Request.{Request}
use Rattle.pw_plan.specs.declared.request.Request.TheVariants.{Idle, Wake, Perf, Throttle, PerfLimit, ThrottleLimit}
use Rattle.pw_plan.specs.Places.{cpu_at}
use Rattle.pw_plan.specs.Requests.{cpu_of}
use Rattle.pw_model.specs.declared.entry.HistoryEntry.{HistoryEntry}
use Rattle.pw_model.specs.declared.reply.Reply.{Reply}
use Rattle.pw_model.specs.declared.reply.Reply.TheVariants.{Entered, Running, Stands, NoState, Disabled, AboveLimit, NoTable, Unfit, TooSlow}
use Rattle.pw_model.specs.declared.state.State.{State}
use Rattle.pw_model.specs.States.{any_latency}
use Rattle.pw_model.specs.History.{entry_of, power}
use Rattle.pw_model.specs.Operations.{opening_ops}

-- # Words

abbrev pub path_of : Plan → ℕ → List ℕ
path_of P p = place_text (cpu_at P p).path.segs

-- the tolerance that an idle request names, unless it bears any latency
abbrev pub tolerance_words : ℕ → List (List ℕ)
tolerance_words t = if t == any_latency then [] else decimal t ∷ []

-- what was asked, as a script says it
abbrev pub request_words : Request → List (List ℕ)
request_words (Idle p s t) = codes "idle" ∷ decimal s ∷ tolerance_words t
request_words (Wake p) = codes "wake" ∷ []
request_words (Perf p i) = codes "perf" ∷ decimal i ∷ []
request_words (Throttle p i) = codes "throttle" ∷ decimal i ∷ []
request_words (PerfLimit p n) = codes "plimit" ∷ decimal n ∷ []
request_words (ThrottleLimit p n) = codes "tlimit" ∷ decimal n ∷ []

abbrev pub chain_words : Chain → List (List ℕ)
chain_words chain = map decimal (take chain.len chain.states)

abbrev pub reply_words : Reply → List (List ℕ)
reply_words (Entered chain) = codes "entered" ∷ chain_words chain
reply_words Running = codes "running" ∷ []
reply_words (Stands index) = codes "stands" ∷ decimal index ∷ []
reply_words (NoState count) = codes "refused" ∷ codes "no" ∷ codes "state," ∷ codes "count" ∷ decimal count ∷ []
reply_words Disabled = codes "refused" ∷ codes "disabled" ∷ []
reply_words (AboveLimit limit) = codes "refused" ∷ codes "above" ∷ codes "limit" ∷ decimal limit ∷ []
reply_words NoTable = codes "refused" ∷ codes "no" ∷ codes "table" ∷ []
reply_words (Unfit domain why) = codes "refused" ∷ codes "unfit" ∷ codes "domain" ∷ decimal domain ∷ codes "why" ∷ decimal why ∷ []
reply_words (TooSlow latency) = codes "refused" ∷ codes "latency" ∷ decimal latency ∷ []

-- Processor power in words: `pw_history/specs/HistoryText.antt` says what is printed of a history.
abbrev pub power_words : Wording Plan Request Reply HistoryEntry State
power_words = record {
  kind = power;
  cpus = λ P. length P.cpus;
  cpu = cpu_of;
  asker = λ e. e.cpu;
  seat = λ e. e.seat;
  entry = entry_of 0;
  faulted = λ q k. record (entry_of 0 q) { fault = k };
  unseated = λ e. record e { seat = 0 };
  opening_ops = opening_ops;
  path = path_of;
  request_words = request_words;
  reply_words = reply_words;
}

-- what came of an entry that was asked in state S
abbrev pub outcome_words : Plan → State → HistoryEntry → List (List ℕ)
outcome_words = texts.outcome_words power_words

-- # Lines

abbrev pub op_line : Plan → Op → List ℕ
op_line = texts.op_line power_words

-- request n, of processor p, and what came of it
abbrev pub request_line : Plan → ℕ → ℕ → Request → List (List ℕ) → List ℕ
request_line = texts.request_line power_words

-- entry n, asked in state S, and the operations that were done
abbrev pub entry_lines : Plan → State → ℕ → HistoryEntry → List (List ℕ)
entry_lines = texts.entry_lines power_words

-- those of the entries from n on
abbrev pub lines_from : Plan → State → ℕ → List HistoryEntry → List (List ℕ)
lines_from = texts.lines_from power_words

abbrev pub opening_lines : Plan → Option ℕ → List (List ℕ)
opening_lines = texts.opening_lines power_words

abbrev pub history_lines : Plan → Option ℕ → List HistoryEntry → List (List ℕ)
history_lines = texts.history_lines power_words

-- The text of a history, or of an opening that a fault ended.
abbrev pub history_text : Plan → Option ℕ → List HistoryEntry → List ℕ
history_text = texts.history_text power_words
