-- Where the fault stands among the entries of a journal.
use Rattle.std.proofs.Common.{◌≡◌, ◌==◌, ◌+◌, ℕ, Bool, true, false, cond, Option, Some, None, List, [], ◌∷◌, ◌++◌, length, nat_lt, refl, ap, arith}
use Rattle.std.specs.Option.{option_map}
use Rattle.std.proofs.lemmas.Bool.Decides.{nat_tests}
use Rattle.pw_plan.proofs.Lists.{each_append}
use Rattle.pw_model.specs.declared.entry.HistoryEntry.{HistoryEntry}
use Rattle.pw_model.specs.History.{Faultless}
use Rattle.pw_journal.specs.Entries.{fault_place}

pub faultless_none : (es : List HistoryEntry) → Faultless es → fault_place es ≡ None
faultless_none [] a = refl
faultless_none (e ∷ es) a =
    let first = a.0 in
    let none : (e.fault == 0) ≡ true = grind (arith, nat_tests) in
    rw (none, faultless_none es a.1) refl

pub none_faultless : (es : List HistoryEntry) → fault_place es ≡ None → Faultless es
none_faultless [] h = tt
none_faultless (e ∷ es) h = step (e.fault == 0) refl h (none_faultless es)
  where
    later : (p : Option ℕ) → option_map (λ n. n + 1) p ≡ None → p ≡ None
    later None h = refl
    later (Some n) h = cc

    step : (b : Bool) → (e.fault == 0) ≡ b → cond b (option_map (λ n. n + 1) (fault_place es)) (Some 1) ≡ None
        → (fault_place es ≡ None → Faultless es) → (e.fault ≡ 0) × Faultless es
    step true is h rest = (grind (arith, nat_tests), rest (later (fault_place es) h))
    step false is h rest = cc

-- an entry that is no fault leaves none
pub none_more : (es : List HistoryEntry) (e : HistoryEntry) → Faultless es → e.fault ≡ 0 → fault_place (es ++ e ∷ []) ≡ None
none_more es e a none = faultless_none (es ++ e ∷ []) (each_append (λ f. f.fault ≡ 0) es (e ∷ []) a (none, tt))

-- the first fault is the last entry
pub fault_last : (es : List HistoryEntry) (e : HistoryEntry) → Faultless es → (e.fault == 0) ≡ false → fault_place (es ++ e ∷ []) ≡ Some (length (es ++ e ∷ []))
fault_last [] e a some = rw some refl
fault_last (d ∷ es) e a some =
    let first = a.0 in
    let none : (d.fault == 0) ≡ true = grind (arith, nat_tests) in
    rw (none, fault_last es e a.1 some) (ap Some (omega arith))

-- # What a journal keeps of it: whether it stopped

pub place_stopped : (es : List HistoryEntry) (b : Bool) (n : ℕ) → fault_place es ≡ cond b (Some n) None → b ≡ true → fault_place es ≡ Some n
place_stopped es true n e is = e
place_stopped es false n e is = cc

pub place_running : (es : List HistoryEntry) (b : Bool) (n : ℕ) → fault_place es ≡ cond b (Some n) None → b ≡ false → fault_place es ≡ None
place_running es true n e is = cc
place_running es false n e is = e

-- an entry more, whatever its fault
pub place_noted : (es : List HistoryEntry) (e : HistoryEntry) (fault : ℕ) → Faultless es → e.fault ≡ fault
    → fault_place (es ++ e ∷ []) ≡ cond (nat_lt 0 fault) (Some (length (es ++ e ∷ []))) None
place_noted es e fault a is = step (nat_lt 0 fault) refl
  where
    step : (b : Bool) → nat_lt 0 fault ≡ b → fault_place (es ++ e ∷ []) ≡ cond b (Some (length (es ++ e ∷ []))) None
    step true some = fault_last es e a (grind (arith, nat_tests))
    step false none = none_more es e a (grind (arith, nat_tests))
