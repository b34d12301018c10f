-- Histories that a script's lines allow, in whatever order processors come to their lines.
use Rattle.std.proofs.Common.{◌≡◌, ◌≢◌, ℕ, Bool, true, List, [], ◌∷◌, Option, Some, None, ◌⊎◌, refl}
use Rattle.std.specs.List.{AllByRecursion}
use Rattle.pw_base.specs.Seen.{FilesSeen}
use Rattle.pw_text.specs.Fields.{lines_of}
use Rattle.pw_plan.specs.declared.plan.Plan.{Plan}
use Rattle.pw_plan.specs.declared.request.Request.{Request}
use Rattle.pw_plan.specs.Requests.{Has}
use Rattle.pw_governor.specs.Choices.{choice}
use Rattle.pw_model.specs.declared.entry.HistoryEntry.{HistoryEntry}
use Rattle.pw_notice.specs.Limits.{answer_by}
use Rattle.pw_turns.specs.declared.close.Sealed.{Sealed}
use Rattle.pw_script.specs.declared.script.Line.{Line as line}
use Rattle.pw_script.specs.Lawful.{Lawful}
use Rattle.pw_script.specs.Reading.{Answered, Chosen, requests_of}
use Rattle.pw_script.proofs.Existing.{lines_fit}
use Rattle.pw_history.proofs.Completions.{completed-run, entries_faultless}
use Rattle.pw_script.proofs.Told.{power_fits}
use Rattle.pw_runs.specs.Runs.{IsTextOn, entries_of}
use Rattle.pw_runs.specs.Scripts.{HoldsScript, limit_by}
use Rattle.pw_runs.specs.Workers.{IsTextBy, Seals}
use Rattle.pw_generate.proofs.Summaries.{nothing_starts}

-- # The lines in their order

-- the history of requests that the plan has, in their order, is one that they allow
in_order_lawful : (P : Plan) (asked : List Request) → AllByRecursion (Has P) asked → Lawful P asked None (entries_of asked)
in_order_lawful P asked has = completed-run (power_fits P) asked [] has tt (nothing_starts P asked)

pub asked_have : (P : Plan) (lines : List line) → AllByRecursion (λ (l : line). Has P l.request) lines → AllByRecursion (Has P) (requests_of lines)
asked_have P [] has = tt
asked_have P (l ∷ ls) has = (has.0, asked_have P ls has.1)

-- The processors of a script's lines exist.
lines_have : (held : Option (List ℕ)) (P : Plan) (step : Bool) (lines : List line) → HoldsScript held P step lines → AllByRecursion (Has P) (requests_of lines)
lines_have held P step lines script =
    let answer = answer_by (limit_by step) (limit_by step) in
    let fit = lines_fit P (Chosen choice) (Answered answer) [] 1 (lines_of script.bytes) lines script.reads.lines_are in
    asked_have P lines fit.exist

-- The text of a serial drive is one of those of a drive by workers.
pub serial_text_is_one : (files : FilesSeen) (step : Bool) (script : List ℕ) (names : List (List ℕ)) (text : List ℕ) → files.told ≡ true
    → IsTextOn files step script names text → IsTextBy files step script names text
serial_text_is_one files step script names text tells is =
    let asked = requests_of is.lines in
    let has = lines_have (files.holds script) is.plan step is.lines (is.given.scripted tells) in
    record {
      plan = is.plan;
      lines = is.lines;
      given = is.given;
      entries = entries_of asked;
      lawful = in_order_lawful is.plan asked has;
      faultless = entries_faultless (power_fits is.plan) asked;
      says = is.says;
    }

-- # What is handed on

-- of a coordinator that was closed
pub seals_closed : (P : Plan) (es : List HistoryEntry) (status : ℕ) (s : Sealed) (sealed : Option Sealed) → s.plan ≡ P → s.entries ≡ es
    → ((status ≡ 0) ⊎ (status ≡ 5) → sealed ≡ Some s) → (status ≢ 0 → status ≢ 5 → sealed ≡ None) → Seals P None es status sealed
seals_closed P es status s sealed plan entries given unended = record {
  given = λ none ends. (s, given ends, plan, entries);
  unopened = λ some. absurd (cc);
  unended = unended;
}

-- of one whose start a fault ended
pub seals_none : (P : Plan) (k : ℕ) (es : List HistoryEntry) (status : ℕ) → Seals P (Some k) es status None
seals_none P k es status = record {
  given = λ none ends. absurd (cc);
  unopened = λ some. refl;
  unended = λ ne nf. refl;
}
