-- What parsing says of a script, by the functions that answered.
use Rattle.std.proofs.Common.{◌≡◌, ◌≢◌, ◌<◌, ◌≤◌, ℕ, Bool, true, false, cond, List, [], length, ltb, Option, Some, None, Result, Ok, Err, IfOk, IfErr, inl, inr, ◌⊎◌, refl, subst, sym, arith}
use Rattle.std.specs.Borrow.{Bor}
use Rattle.std.specs.List.{AllByRecursion}
use Rattle.std.proofs.lemmas.Bool.{ltb-false}
use Rattle.acpi_values.specs.declared.idle.IdleTable.{IdleTable}
use Rattle.pw_text.specs.declared.script.ScriptFault.{ScriptFault}
use Rattle.pw_text.specs.declared.script.ScriptFault.TheVariants.{TooLong, Memory}
use Rattle.pw_text.specs.declared.script.TheConstants.{MOST_BYTES, MOST_LINES, MOST_OPERATIONS}
use Rattle.pw_text.specs.Fields.{lines_of}
use Rattle.pw_plan.specs.declared.plan.Plan.{Plan}
use Rattle.pw_plan.specs.Requests.{Has}
use Rattle.pw_governor.specs.Choices.{ChoosesAs, choice}
use Rattle.pw_notice.specs.Handling.{HandlesAs}
use Rattle.pw_notice.specs.Limits.{AnsweredBy}
use Rattle.pw_script.specs.declared.script.Line.{Line as line}
use Rattle.pw_script.specs.declared.script.Script.{Script}
use Rattle.pw_script.specs.Reading.{AreLines, Fit, LawfullyChosen, first_bad, operations, refused}
use Rattle.pw_script.proofs.Askable.{lines_by}
use Rattle.pw_runs.specs.Scripts.{AreLinesIn, IsNoScript, IsScript, limit_by}
use Rattle.pw_runs.specs.Scripts.IsNoScript.{bad, too_much}

-- a script isn't refused, so that its lines are few
few_lines : (P : Plan) (bytes : List ℕ) → refused P bytes ≡ None → length (lines_of bytes) ≤ 65536
few_lines P bytes e = step (ltb MOST_BYTES (length bytes)) (ltb MOST_LINES (length (lines_of bytes))) (first_bad P 1 (lines_of bytes)) refl e
  where
    step : (a b : Bool) (rest : Option ScriptFault) → ltb MOST_LINES (length (lines_of bytes)) ≡ b
        → cond a (Some (TooLong MOST_BYTES)) (cond b (Some (TooLong MOST_LINES)) rest) ≡ None → length (lines_of bytes) ≤ 65536
    step true b rest large none = absurd (cc)
    step false true rest large none = absurd (cc)
    step false false rest large none = ltb-false MOST_LINES (length (lines_of bytes)) large

-- the lines of a script that was read are few, and their processors exist
pub few_read : (P : Plan) (bytes : List ℕ) (r : Result Script ScriptFault) → IfOk r (λ script. refused P bytes ≡ None)
    → IfOk r (λ script. Fit P (lines_of bytes) script.lines) → IfOk r (λ script. length script.lines ≤ 65536)
few_read P bytes (Ok script) good fit = let texts = few_lines P bytes good in let few = fit.few in omega (arith, texts, few)
few_read P bytes (Err fault) good fit = tt

pub has_read : (P : Plan) (bytes : List ℕ) (r : Result Script ScriptFault) → IfOk r (λ script. Fit P (lines_of bytes) script.lines)
    → IfOk r (λ script. AllByRecursion (λ (l : line). Has P l.request) script.lines)
has_read P bytes (Ok script) fit = fit.exist
has_read P bytes (Err fault) fit = tt

module _ (P : Plan) (bytes : List ℕ) (governor : Bor IdleTable → ℕ → ℕ → ℕ → Type 0) (perf throttle : ℕ → ℕ → ℕ → ℕ → Type 0) (chosen : ChoosesAs choice governor) where
  -- the lines that were read
  abbrev Read : List line → Type 0
  Read lines = AreLines P (LawfullyChosen governor) (AnsweredBy perf throttle) [] 1 (lines_of bytes) lines

  lines_in : (step : Bool) → HandlesAs (limit_by step) perf → HandlesAs (limit_by step) throttle → (lines : List line) → Read lines → AreLinesIn P step bytes lines
  lines_in step p t lines are = lines_by P governor perf throttle choice (limit_by step) (limit_by step) chosen p t [] 1 (lines_of bytes) lines are

  -- a script that was read
  pub script_read : (r : Result Script ScriptFault) → IfOk r (λ script. refused P bytes ≡ None) → IfOk r (λ script. Read script.lines)
      → IfOk r (λ script. operations P script.lines ≤ MOST_OPERATIONS)
      → IfOk r (λ script. (step : Bool) → HandlesAs (limit_by step) perf → HandlesAs (limit_by step) throttle → IsScript P step bytes script.lines)
  script_read (Ok script) good are few = λ step p t. record { good = good; lines_are = lines_in step p t script.lines are; few = few }
  script_read (Err fault) good are few = tt

  -- why there is none
  pub none_read : (r : Result Script ScriptFault)
      → IfErr r (λ fault. fault ≢ Memory → (refused P bytes ≡ Some fault)
      ⊎ ((refused P bytes ≡ None) × (fault ≡ TooLong MOST_OPERATIONS) × (lines : List line) × Read lines × (MOST_OPERATIONS < operations P lines)))
      → IfErr r (λ fault. fault ≢ Memory → (step : Bool) → HandlesAs (limit_by step) perf → HandlesAs (limit_by step) throttle → IsNoScript P step bytes fault)
  none_read (Ok script) why = tt
  none_read (Err fault) why = λ own step p t. elim (why own) [
    | inl refusal ↦ bad refusal
    | inr much ↦ subst (λ (f : ScriptFault). IsNoScript P step bytes f) (sym much.1) (too_much much.2 much.0 (lines_in step p t much.2 much.3) much.4)
  ]
