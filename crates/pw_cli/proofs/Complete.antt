-- What must come, want of memory aside.
use Rattle.std.proofs.Common.{◌≡◌, ℕ, true, List, [], Option, None, codes, inl, inr, refl, subst, arith}
use Rattle.pw_base.specs.Seen.{Grew, GrewByLine}
use Rattle.pw_words.specs.declared.command.WordsFault.{WordsFault}
use Rattle.pw_words.specs.declared.command.WordsFault.TheVariants.{Refused, Memory}
use Rattle.pw_words.specs.Words.{AskFor, Asked, IsCommand}
use Rattle.pw_words.proofs.Asking.{one_asked}
use Rattle.pw_load.specs.Seen.{Seen, NoneFailed}
use Rattle.pw_load.specs.Ends.{Work}
use Rattle.pw_turns.specs.declared.close.Sealed.{Sealed}
use Rattle.pw_load.proofs.Completeness.{IsJudged, so_printed, so_refused, so_unprinted, so_printable}
use Rattle.pw_cli.specs.Runs.{EndsBy, EndsSo, IsComplete, IsCompleteFor, IsSettled, Obeys, Ran, names_in, words_line, words_status, work_of}
use Rattle.pw_cli.specs.Runs.EndsBy.{misworded, without_memory, commanded}
use Rattle.pw_cli.proofs.Obeying.{command_is_judged, did_or_lost, does_not, none_unread, settled_is_one, within_of}

-- words that are no command, by why they aren't read
pub refused_so : (words : List (List ℕ)) (sealed : Option Sealed) (before after : Seen) (fault : WordsFault) → (fault ≡ Refused → IsCommand words → ⊥)
    → after.regs ≡ before.regs → sealed ≡ None → EndsBy words sealed before after (words_status fault) [] (words_line fault)
refused_so words sealed before after Refused none same unsealed = misworded (none refl) same unsealed
refused_so words sealed before after Memory none same unsealed = without_memory same unsealed

-- the run did what the words ask for, or memory ran out before they were read
data Obeyed (asked : Asked) (sealed : Option Sealed) (before after : Seen) (status : ℕ) (text line : List ℕ) : Type 0 where
  did : Obeys asked sealed before after status text line → Obeyed asked sealed before after status text line
  didn't : status ≡ 6 → Obeyed asked sealed before after status text line

obeyed_so : {words : List (List ℕ)} {sealed : Option Sealed} {before after : Seen} {status : ℕ} {text line : List ℕ} (asked : Asked) → AskFor words asked
    → EndsBy words sealed before after status text line → Obeyed asked sealed before after status text line
obeyed_so asked is (misworded none same unsealed) = absurd (none (asked, is))
obeyed_so asked is (without_memory same unsealed) = didn't refl
obeyed_so {words} {sealed} {before} {after} {status} {text} {line} asked is (commanded other named does) =
    did (subst (λ (a : Asked). Obeys a sealed before after status text line) (one_asked words other asked named is) does)

module _ {words : List (List ℕ)} {sealed : Option Sealed} {before after : Seen} {status : ℕ} (ran : Ran words sealed before after status) (asked : Asked) (is : AskFor words asked)
    (tells : before.files.told ≡ true) (none : NoneFailed (names_in asked) before.files after.files) where
  abbrev work : Work
  work = work_of asked before.files after.files

  judged : IsJudged work
  judged = command_is_judged asked before.files after.files tells

  settled : IsSettled asked → (a b : List ℕ) → work.text a → work.text b → a ≡ b
  settled = settled_is_one asked before.files after.files tells

  read_fault-never : work.read_fault → ⊥
  read_fault-never = none_unread asked before.files after.files none

  complete_by : Obeys asked sealed before after status ran.text ran.line → IsCompleteFor asked before after status
  complete_by o = elim (did_or_lost asked (within_of words asked is) sealed before after status ran.text ran.line o) [
    | inl does ↦ record {
      prints = λ text made held holds. so_printed text judged read_fault-never holds made does ran.on_out ran.on_err;
      one = settled;
      refuses = λ so line refusal. so_refused so line judged read_fault-never refusal does ran.on_out ran.on_err;
      unprinted = λ never. so_unprinted read_fault-never never does;
      printable = λ text made held. so_printable text judged read_fault-never made does;
    }
    | inr lost ↦ record {
      prints = λ text made held holds. absurd (lost.unheld held);
      one = settled;
      refuses = λ so line refusal. (let m = lost.made tells in absurd (judged.apart so m.0 line m.1 refusal));
      unprinted = λ never. (let m = lost.made tells in absurd (never m.0 m.1));
      printable = λ text made held. absurd (lost.unheld held);
    }
  ]

  pub complete_for : IsCompleteFor asked before after status
  complete_for = elim (obeyed_so asked is ran.way) [
    | did o ↦ complete_by o
    | didn't six ↦ record {
      prints = λ text made held holds. inr six;
      one = settled;
      refuses = λ so line refusal. inr six;
      unprinted = λ never. inr six;
      printable = λ text made held. inr (inr six);
    }
  ]

-- # All words

misworded_so : {words : List (List ℕ)} {sealed : Option Sealed} {before after : Seen} {status : ℕ} {text line : List ℕ} → (IsCommand words → ⊥) → EndsBy words sealed before after status text line
    → Grew before.outputs.out after.outputs.out text → GrewByLine before.outputs.err after.outputs.err line
    → EndsSo before after status 2 [] (codes "words: refused\n")
misworded_so none (misworded refuted same unsealed) on_out on_err = inl (record { is = refl; on_out = on_out; on_err = on_err })
misworded_so none (without_memory same unsealed) on_out on_err = inr refl
misworded_so none (commanded asked is does) on_out on_err = absurd (none (asked, is))

worded_so : {words : List (List ℕ)} {sealed : Option Sealed} {before after : Seen} {status : ℕ} {text line : List ℕ} → EndsBy words sealed before after status text line
    → status ≡ 2 → IsCommand words → ⊥
worded_so (misworded none same unsealed) two is = none is
worded_so (without_memory same unsealed) two is = absurd (omega arith)
worded_so {words = words} {sealed = sealed} {before = before} {after = after} {status = status} {text = text} {line = line} (commanded asked said o) two is =
    elim (did_or_lost asked (within_of words asked said) sealed before after status text line o) [
      | inl does ↦ does_not 2 (inl refl) asked before after status text line does two
      | inr lost ↦ (let five = lost.five in absurd (omega (arith, five, two)))
    ]

pub complete_of : {words : List (List ℕ)} {sealed : Option Sealed} {before after : Seen} {status : ℕ} → Ran words sealed before after status → IsComplete words before after status
complete_of ran = record {
  misworded = λ none. misworded_so none ran.way ran.on_out ran.on_err;
  worded = worded_so ran.way;
  obeyed = λ asked is tells none. complete_for ran asked is tells none;
}
