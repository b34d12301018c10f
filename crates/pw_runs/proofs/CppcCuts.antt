-- A file that is too long to be a script is refused by its first bytes just as by all of them.
use Rattle.std.proofs.Common.{◌≡◌, ◌<◌, ◌+◌, ℕ, Bool, true, List, length, take, Option, Some, None, Result, Ok, Err, IfOk, inl, inr, refl, sym, subst, ◌∙◌}
use Rattle.std.specs.Prelude.{IsSomeAnd}
use Rattle.std.proofs.lemmas.Bool.{lt-ltb, false≢true}
use Rattle.pw_base.specs.Seen.{FilesSeen}
use Rattle.aml_block.specs.Answers.{IsHeldAnd}
use Rattle.pw_text.specs.declared.script.ScriptFault.{ScriptFault}
use Rattle.pw_text.specs.declared.script.ScriptFault.TheVariants.{TooLong}
use Rattle.pw_text.specs.declared.script.TheConstants.{MOST_BYTES}
use Rattle.pw_load.proofs.Outcomes.{IsWithin}
use Rattle.pw_runs.proofs.Cuts.{cut_or_long}
use Rattle.pw_cppc.specs.declared.plan.CppcPlan.{CppcPlan}
use Rattle.pw_cppc_drive.specs.declared.script.CppcLine.{CppcLine}
use Rattle.pw_cppc_drive.specs.declared.script.CppcScript.{CppcScript}
use Rattle.pw_cppc_drive.specs.Reading.{IsNoScript, IsScript, refused}
use Rattle.pw_cppc_drive.specs.Reading.IsNoScript.{bad, too_much}
use Rattle.pw_runs.specs.CppcScripts.{HoldsNoScript, HoldsScript}
use Rattle.pw_runs.specs.inner.CppcParts.{IsNotScripted, IsUnparsed, parsing, scripting}

-- bytes that are too many are refused for that
long_refused : (P : CppcPlan) (bytes : List ℕ) → MOST_BYTES < length bytes → refused P bytes ≡ Some (TooLong MOST_BYTES)
long_refused P bytes long = rw (lt-ltb MOST_BYTES (length bytes) long) refl

-- what the first bytes are as a script, all are
cut_reads : (P : CppcPlan) (content : List ℕ) (lines : List CppcLine) → IsScript P (take (MOST_BYTES + 1) content) lines → IsScript P content lines
cut_reads P content lines reads =
    elim (cut_or_long MOST_BYTES content) [
      | inl same ↦ subst (λ (b : List ℕ). IsScript P b lines) same reads
      | inr long ↦ absurd (some_none (sym (long_refused P (take (MOST_BYTES + 1) content) long.0) ∙ reads.good))
    ]
  where
    some_none : {X : Type 0} {x : X} → Some x ≡ None → ⊥
    some_none e = absurd (cc)

-- and why they are none
cut_fails : (P : CppcPlan) (content : List ℕ) (fault : ScriptFault) → IsNoScript P (take (MOST_BYTES + 1) content) fault → IsNoScript P content fault
cut_fails P content fault fails =
    elim (cut_or_long MOST_BYTES content) [
      | inl same ↦ subst (λ (b : List ℕ). IsNoScript P b fault) same fails
      | inr long ↦ of_long long.0 long.1 fault fails
    ]
  where
    of_long : MOST_BYTES < length (take (MOST_BYTES + 1) content) → MOST_BYTES < length content → (g : ScriptFault)
        → IsNoScript P (take (MOST_BYTES + 1) content) g → IsNoScript P content g
    of_long a b g (bad e) =
        let is : Some (TooLong MOST_BYTES) ≡ Some g = sym (long_refused P (take (MOST_BYTES + 1) content) a) ∙ e in
        bad (long_refused P content b ∙ is)
    of_long a b g (too_much good more) =
        let is : Some (TooLong MOST_BYTES) ≡ None = sym (long_refused P (take (MOST_BYTES + 1) content) a) ∙ good in
        absurd (cc)

-- what is held, of which so many bytes were read
module _ (P : CppcPlan) (read : List ℕ) where
  held_script : (held : Option (List ℕ)) (lines : List CppcLine) → IsSomeAnd held (λ content. read ≡ take (MOST_BYTES + 1) content) → IsScript P read lines
      → HoldsScript held P lines
  held_script (Some content) lines is reads =
      record { bytes = content; is = refl; reads = cut_reads P content lines (subst (λ (b : List ℕ). IsScript P b lines) is reads) }
  held_script None lines is reads = absurd is

  held_no_script : (held : Option (List ℕ)) (fault : ScriptFault) → IsSomeAnd held (λ content. read ≡ take (MOST_BYTES + 1) content) → IsNoScript P read fault
      → HoldsNoScript held P fault
  held_no_script (Some content) fault is fails =
      record { bytes = content; is = refl; fails = cut_fails P content fault (subst (λ (b : List ℕ). IsNoScript P b fault) is fails) }
  held_no_script None fault is fails = absurd is

  -- what the bytes gave, where files tell
  pub held_if : {E : Type 0} (told : Bool) (held : Option (List ℕ)) (r : Result CppcScript E) → IsHeldAnd told held (λ content. read ≡ take (MOST_BYTES + 1) content)
      → IfOk r (λ script. IsScript P read script.lines) → IfOk r (λ script. told ≡ true → HoldsScript held P script.lines)
  held_if told held (Ok script) content reads = λ tells. held_script held script.lines (content tells) reads
  held_if told held (Err e) content reads = tt

  -- to parse them is part of reading the script
  pub parsing_within : (before after : FilesSeen) (name : List ℕ) → IsHeldAnd before.told (before.holds name) (λ content. read ≡ take (MOST_BYTES + 1) content)
      → IsWithin (parsing P read) (scripting before after P name)
  parsing_within before after name content = record {
    texts = λ text never. absurd never;
    refusals = refusing;
    read_faults = λ never. absurd never;
    pieces = λ e. absurd (false≢true e);
  }
    where
      refusing : (status : ℕ) (text : List ℕ) → IsUnparsed P read status text → IsNotScripted before P name status text
      refusing status text r = record {
        is = r.is;
        fault = r.fault;
        of_bytes = r.of_bytes;
        held = λ tells. held_no_script (before.holds name) r.fault (content tells) r.fails;
        says = r.says;
      }
