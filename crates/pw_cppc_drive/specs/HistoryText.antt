-- The printed text of a history of requests for performance.
use Rattle.std.specs.Prelude.{ℕ, List, [], ◌∷◌, length, codes, decimal, Option}
use Rattle.acpi_values.specs.declared.operation.Op.{Op}
use Rattle.pw_text.specs.Text.{place_text}
use Rattle.pw_history.specs.HistoryText as texts
use Rattle.pw_history.specs.Wording.{Wording}
use Rattle.pw_cppc.specs.declared.plan.CppcPlan.{CppcPlan}
use Rattle.pw_cppc.specs.declared.request.CppcRequest.{CppcRequest}
use Rattle.pw_cppc.specs.declared.request.CppcRequest.TheVariants.{Desired, Minimum, Maximum}
use Rattle.pw_cppc.specs.declared.entry.CppcEntry.{CppcEntry}
use Rattle.pw_cppc.specs.declared.numbers.CppcNumbers.{CppcNumbers}
use Rattle.pw_cppc.specs.declared.reply.CppcReply.{CppcReply}
use Rattle.pw_cppc.specs.declared.reply.CppcReply.TheVariants.{Stands, NoTable, Unfit, OutOfRange, Crossed}
use Rattle.pw_cppc.specs.Requests.{cpu_of}
use Rattle.pw_cppc.specs.Sound.{path_in}
use Rattle.pw_cppc.specs.History.{entry_of, performance}
use Rattle.pw_cppc.specs.Operations.{opening_ops}

-- # Words

abbrev pub path_of : CppcPlan → ℕ → List ℕ
path_of P p = place_text (path_in P.paths p).segs

-- what was asked, as a script says it
abbrev pub request_words : CppcRequest → List (List ℕ)
request_words (Desired p v) = codes "desired" ∷ decimal v ∷ []
request_words (Minimum p v) = codes "minimum" ∷ decimal v ∷ []
request_words (Maximum p v) = codes "maximum" ∷ decimal v ∷ []

abbrev pub reply_words : CppcReply → List (List ℕ)
reply_words (Stands value) = codes "stands" ∷ decimal value ∷ []
reply_words NoTable = codes "refused" ∷ codes "no" ∷ codes "table" ∷ []
reply_words (Unfit why) = codes "refused" ∷ codes "unfit" ∷ decimal why ∷ []
reply_words (OutOfRange lowest highest) = codes "refused" ∷ codes "out" ∷ codes "of" ∷ codes "range" ∷ decimal lowest ∷ decimal highest ∷ []
reply_words (Crossed bound) = codes "refused" ∷ codes "crossed" ∷ decimal bound ∷ []

-- Desired performance in words: `pw_history/specs/HistoryText.antt` says what is printed of a history.
abbrev pub performance_words : Wording CppcPlan CppcRequest CppcReply CppcEntry CppcNumbers
performance_words = record {
  kind = performance;
  cpus = λ P. length P.cpus;
  cpu = cpu_of;
  asker = λ e. e.cpu;
  seat = λ e. e.seat;
  entry = entry_of 0;
  faulted = λ q k. record (entry_of 0 q) { fault = k };
  unseated = λ e. record e { seat = 0 };
  opening_ops = opening_ops;
  path = path_of;
  request_words = request_words;
  reply_words = reply_words;
}

-- # Lines

abbrev pub op_line : CppcPlan → Op → List ℕ
op_line = texts.op_line performance_words

-- entry n, asked of these numbers, and the operations that were done
abbrev pub entry_lines : CppcPlan → CppcNumbers → ℕ → CppcEntry → List (List ℕ)
entry_lines = texts.entry_lines performance_words

-- those of the entries from n on
abbrev pub lines_from : CppcPlan → CppcNumbers → ℕ → List CppcEntry → List (List ℕ)
lines_from = texts.lines_from performance_words

abbrev pub history_lines : CppcPlan → Option ℕ → List CppcEntry → List (List ℕ)
history_lines = texts.history_lines performance_words

-- The text of a history, or of an opening that a fault ended.
abbrev pub history_text : CppcPlan → Option ℕ → List CppcEntry → List ℕ
history_text = texts.history_text performance_words
