-- A file that is too long to be a script is refused by its first bytes just as by all of them.
use Rattle.std.proofs.Common.{◌≡◌, ◌<◌, ◌+◌, ℕ, Bool, true, false, List, length, take, ltb, Option, Some, None, Result, Ok, Err, IfOk, IfErr, inl, inr, ◌⊎◌, refl, sym, subst, ◌∙◌, arith}
use Rattle.std.specs.Prelude.{IsSomeAnd}
use Rattle.std.proofs.lemmas.Bool.{lt-ltb, ltb-false, ltb-true}
use Rattle.std.proofs.lemmas.List.{length-take-le, take_all}
use Rattle.pw_base.specs.Seen.{FilesSeen}
use Rattle.aml_block.specs.Answers.{IsHeldAnd}
use Rattle.pw_text.specs.declared.script.ScriptFault.{ScriptFault}
use Rattle.pw_text.specs.declared.script.ScriptFault.TheVariants.{TooLong}
use Rattle.pw_text.specs.declared.script.TheConstants.{MOST_BYTES}
use Rattle.pw_plan.specs.declared.plan.Plan.{Plan}
use Rattle.pw_script.specs.declared.script.Line.{Line as line}
use Rattle.pw_script.specs.declared.script.Script.{Script}
use Rattle.pw_script.specs.Reading.{refused}
use Rattle.pw_runs.specs.Scripts.{HoldsNoScript, HoldsScript, IsNoScript, IsScript}
use Rattle.pw_runs.specs.declared.script.Missing.{Missing}
use Rattle.pw_runs.specs.declared.script.Missing.TheVariants.{Unread, Fault}
use Rattle.pw_runs.specs.inner.Parts.{IsWhyMissing, IsWhyNone}
use Rattle.pw_runs.specs.Scripts.IsNoScript.{bad, too_much}

-- bytes that are too many are refused for that
long_refused : (P : Plan) (bytes : List ℕ) → MOST_BYTES < length bytes → refused P bytes ≡ Some (TooLong MOST_BYTES)
long_refused P bytes long = rw (lt-ltb MOST_BYTES (length bytes) long) refl

-- the first bytes are all of them, or there are too many, of both
pub cut_or_long : (most : ℕ) (content : List ℕ)
    → (take (most + 1) content ≡ content) ⊎ ((most < length (take (most + 1) content)) × (most < length content))
cut_or_long most content = step (ltb most (length content)) refl
  where
    step : (b : Bool) → ltb most (length content) ≡ b
        → (take (most + 1) content ≡ content) ⊎ ((most < length (take (most + 1) content)) × (most < length content))
    step true e =
        let long = ltb-true most (length content) e in
        let all : length (take (most + 1) content) ≡ most + 1 = length-take-le (most + 1) content (omega (arith, long)) in
        inr (omega (arith, all), long)
    step false e = inl (take_all (most + 1) content (omega (arith, ltb-false most (length content) e)))

-- what the first bytes are as a script, all are
pub cut_reads : (P : Plan) (step : Bool) (content : List ℕ) (lines : List line) → IsScript P step (take (MOST_BYTES + 1) content) lines → IsScript P step content lines
cut_reads P step content lines reads =
    elim (cut_or_long MOST_BYTES content) [
      | inl same ↦ subst (λ (b : List ℕ). IsScript P step b lines) same reads
      | inr long ↦ absurd (some_none (sym (long_refused P (take (MOST_BYTES + 1) content) long.0) ∙ reads.good))
    ]
  where
    some_none : {X : Type 0} {x : X} → Some x ≡ None → ⊥
    some_none e = absurd (cc)

-- and why they are none
pub cut_fails : (P : Plan) (step : Bool) (content : List ℕ) (fault : ScriptFault) → IsNoScript P step (take (MOST_BYTES + 1) content) fault → IsNoScript P step content fault
cut_fails P step content fault fails =
    elim (cut_or_long MOST_BYTES content) [
      | inl same ↦ subst (λ (b : List ℕ). IsNoScript P step b fault) same fails
      | inr long ↦ of_long long.0 long.1 fault fails
    ]
  where
    of_long : MOST_BYTES < length (take (MOST_BYTES + 1) content) → MOST_BYTES < length content → (g : ScriptFault)
        → IsNoScript P step (take (MOST_BYTES + 1) content) g → IsNoScript P step content g
    of_long a b g (bad e) =
        let is : Some (TooLong MOST_BYTES) ≡ Some g = sym (long_refused P (take (MOST_BYTES + 1) content) a) ∙ e in
        bad (long_refused P content b ∙ is)
    of_long a b g (too_much lines good are more) =
        let is : Some (TooLong MOST_BYTES) ≡ None = sym (long_refused P (take (MOST_BYTES + 1) content) a) ∙ good in
        absurd (cc)

-- what is held, of which so many bytes were read
module _ (P : Plan) (step : Bool) (read : List ℕ) where
  pub held_script : (held : Option (List ℕ)) (lines : List line) → IsSomeAnd held (λ content. read ≡ take (MOST_BYTES + 1) content) → IsScript P step read lines
      → HoldsScript held P step lines
  held_script (Some content) lines is reads =
      record { bytes = content; is = refl; reads = cut_reads P step content lines (subst (λ (b : List ℕ). IsScript P step b lines) is reads) }
  held_script None lines is reads = absurd is

  pub held_no_script : (held : Option (List ℕ)) (fault : ScriptFault) → IsSomeAnd held (λ content. read ≡ take (MOST_BYTES + 1) content) → IsNoScript P step read fault
      → HoldsNoScript held P step fault
  held_no_script (Some content) fault is fails =
      record { bytes = content; is = refl; fails = cut_fails P step content fault (subst (λ (b : List ℕ). IsNoScript P step b fault) is fails) }
  held_no_script None fault is fails = absurd is

  -- what the bytes gave, where files tell
  pub held_if : {E : Type 0} (told : Bool) (held : Option (List ℕ)) (r : Result Script E) → IsHeldAnd told held (λ content. read ≡ take (MOST_BYTES + 1) content)
      → IfOk r (λ script. IsScript P step read script.lines) → IfOk r (λ script. told ≡ true → HoldsScript held P step script.lines)
  held_if told held (Ok script) content reads = λ tells. held_script held script.lines (content tells) reads
  held_if told held (Err e) content reads = tt

  pub held_why : (before after : FilesSeen) (name : List ℕ) (r : Result Script Missing)
      → IsHeldAnd before.told (before.holds name) (λ content. read ≡ take (MOST_BYTES + 1) content) → IfErr r (IsWhyNone P step read)
      → IfErr r (IsWhyMissing before after name P step)
  held_why before after name (Ok script) content none = tt
  held_why before after name (Err Unread) content none = absurd none
  held_why before after name (Err (Fault fault)) content none = λ own tells. held_no_script (before.holds name) fault (content tells) (none own)
