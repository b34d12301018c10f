-- Histories one after the other.
use Rattle.std.proofs.Common.{◌≡◌, ◌≢◌, ◌<◌, ◌≤◌, ◌+◌, ◌-◌, ◌==◌, inl, inr, length, ℕ, Bool, true, false, cond, List, [], ◌∷◌, ◌++◌, Some, None, refl, ap, sym, ◌∙◌, arith, append_assoc}
use Rattle.std.specs.List.{AllByRecursion}
use Rattle.std.proofs.lemmas.Bool.Decides.{nat_tests}
use Rattle.pw_kind.specs.Coordination.{Coordination}
use Rattle.pw_kind.specs.History.{FaultFits, FaultIsLast, Faultless, FaultsFit, Legal, MayFollow, StopsAt, after_entry, entry_ops, entry_reply, fault_at, history_ops, ops_from, replay, replay_from, replies, replies_from}

each_more : {X : Type 0} (Q : X → Type 0) (xs : List X) (y : X) → AllByRecursion Q xs → Q y → AllByRecursion Q (xs ++ y ∷ [])
each_more Q [] y a b = (b, tt)
each_more Q (x ∷ xs) y a b = (a.0, each_more Q xs y a.1 b)

pub each_first : {X : Type 0} (Q : X → Type 0) (xs ys : List X) → AllByRecursion Q (xs ++ ys) → AllByRecursion Q xs
each_first Q [] ys a = tt
each_first Q (x ∷ xs) ys a = (a.0, each_first Q xs ys a.1)

pub each_last : {X : Type 0} (Q : X → Type 0) (xs ys : List X) → AllByRecursion Q (xs ++ ys) → AllByRecursion Q ys
each_last Q [] ys a = a
each_last Q (x ∷ xs) ys a = each_last Q xs ys a.1

module _ {P Q A E S : Type 0} (C : Coordination P Q A E S) where
  -- # One after the other

  replay_from-append : (plan : P) (s : S) (es fs : List E) → replay_from C plan s (es ++ fs) ≡ replay_from C plan (replay_from C plan s es) fs
  replay_from-append plan s [] fs = refl
  replay_from-append plan s (e ∷ es) fs = replay_from-append plan (after_entry C plan s e) es fs

  replies_from-append : (plan : P) (s : S) (es fs : List E) → replies_from C plan s (es ++ fs) ≡ replies_from C plan s es ++ replies_from C plan (replay_from C plan s es) fs
  replies_from-append plan s [] fs = refl
  replies_from-append plan s (e ∷ es) fs =
      ap (λ rs. entry_reply C plan s e ++ rs) (replies_from-append plan (after_entry C plan s e) es fs)
      ∙ sym (append_assoc (entry_reply C plan s e) (replies_from C plan (after_entry C plan s e) es) (replies_from C plan (replay_from C plan (after_entry C plan s e) es) fs))

  ops_from-append : (plan : P) (s : S) (es fs : List E) → ops_from C plan s (es ++ fs) ≡ ops_from C plan s es ++ ops_from C plan (replay_from C plan s es) fs
  ops_from-append plan s [] fs = refl
  ops_from-append plan s (e ∷ es) fs =
      ap (λ os. entry_ops C plan s e ++ os) (ops_from-append plan (after_entry C plan s e) es fs)
      ∙ sym (append_assoc (entry_ops C plan s e) (ops_from C plan (after_entry C plan s e) es) (ops_from C plan (replay_from C plan (after_entry C plan s e) es) fs))

  pub replay-append : (plan : P) (es fs : List E) → replay C plan (es ++ fs) ≡ replay_from C plan (replay C plan es) fs
  unfolding replay
  replay-append plan es fs = replay_from-append plan (C.opening plan) es fs

  pub replies-append : (plan : P) (es fs : List E) → replies C plan (es ++ fs) ≡ replies C plan es ++ replies_from C plan (replay C plan es) fs
  unfolding replay replies
  replies-append plan es fs = replies_from-append plan (C.opening plan) es fs

  pub history_ops-append : (plan : P) (es fs : List E) → history_ops C plan (es ++ fs) ≡ history_ops C plan es ++ ops_from C plan (replay C plan es) fs
  unfolding replay history_ops
  history_ops-append plan es fs = ops_from-append plan (C.opening plan) es fs

  -- # Legal histories

  last_more : (es : List E) (e : E) → Faultless C es → FaultIsLast C (es ++ e ∷ [])
  last_more [] e a = tt
  last_more (d ∷ []) e a = (a.0, tt)
  last_more (d ∷ f ∷ es) e a = (a.0, last_more (f ∷ es) e a.1)

  pub last_before : (es fs : List E) (e : E) → FaultIsLast C (es ++ e ∷ fs) → Faultless C es
  last_before [] fs e a = tt
  last_before (d ∷ []) fs e a = (a.0, tt)
  last_before (d ∷ f ∷ es) fs e a = (a.0, last_before (f ∷ es) fs e a.1)

  last_of_first : (es fs : List E) → FaultIsLast C (es ++ fs) → FaultIsLast C es
  last_of_first [] fs a = tt
  last_of_first (d ∷ []) fs a = tt
  last_of_first (d ∷ f ∷ es) fs a = (a.0, last_of_first (f ∷ es) fs a.1)

  fit_first : (plan : P) (s : S) (es fs : List E) → FaultsFit C plan s (es ++ fs) → FaultsFit C plan s es
  fit_first plan s [] fs a = tt
  fit_first plan s (e ∷ es) fs a = (a.0, fit_first plan (after_entry C plan s e) es fs a.1)

  fit_last : (plan : P) (s : S) (es fs : List E) → FaultsFit C plan s (es ++ fs) → FaultsFit C plan (replay_from C plan s es) fs
  fit_last plan s [] fs a = a
  fit_last plan s (e ∷ es) fs a = fit_last plan (after_entry C plan s e) es fs a.1

  fit_both : (plan : P) (s : S) (es fs : List E) → FaultsFit C plan s es → FaultsFit C plan (replay_from C plan s es) fs → FaultsFit C plan s (es ++ fs)
  fit_both plan s [] fs a b = b
  fit_both plan s (e ∷ es) fs a b = (a.0, fit_both plan (after_entry C plan s e) es fs a.1 b)

  pub legal-faultless : (plan : P) (es : List E) → AllByRecursion (C.IsEntry plan) es → Faultless C es → Legal C plan es
  legal-faultless plan es is none = record { well_formed = record { entries = is; fault = last es none }; faults = fit (C.opening plan) es none }
    where
      last : (es : List E) → Faultless C es → FaultIsLast C es
      last [] none = tt
      last (e ∷ []) none = tt
      last (e ∷ f ∷ es) none = (none.0, last (f ∷ es) none.1)

      fit : (s : S) (es : List E) → Faultless C es → FaultsFit C plan s es
      fit s [] none = tt
      fit s (e ∷ es) none = (inl none.0, fit (after_entry C plan s e) es none.1)

  pub legal-empty : (plan : P) → Legal C plan []
  legal-empty plan = legal-faultless plan [] tt tt

  pub legal-first : (plan : P) (es fs : List E) → Legal C plan (es ++ fs) → Legal C plan es
  legal-first plan es fs l = record {
    well_formed = record { entries = each_first (C.IsEntry plan) es fs l.well_formed.entries; fault = last_of_first es fs l.well_formed.fault };
    faults = fit_first plan (C.opening plan) es fs l.faults;
  }

  pub legal-more : (plan : P) (es : List E) (e : E) → Legal C plan es → MayFollow C plan es e → Legal C plan (es ++ e ∷ [])
  unfolding replay
  legal-more plan es e l h = record {
    well_formed = record { entries = each_more (C.IsEntry plan) es e l.well_formed.entries h.entry; fault = last_more es e h.faultless };
    faults = fit_both plan (C.opening plan) es (e ∷ []) l.faults (h.fits, tt);
  }

  pub legal-follows : (plan : P) (es : List E) (e : E) → Legal C plan (es ++ e ∷ []) → MayFollow C plan es e
  unfolding replay
  legal-follows plan es e l = record {
    faultless = last_before es [] e l.well_formed.fault;
    entry = (each_last (C.IsEntry plan) es (e ∷ []) l.well_formed.entries).0;
    fits = (fit_last plan (C.opening plan) es (e ∷ []) l.faults).0;
  }

  -- # The fault

  pub fault_none : (es : List E) → fault_at C es ≡ None → Faultless C es
  fault_none [] e = tt
  fault_none (x ∷ es) e = step (C.fault x == 0) refl e (fault_none es)
    where
      step : (b : Bool) → (C.fault x == 0) ≡ b → cond b (fault_at C es) (Some (C.fault x - 1)) ≡ None → (fault_at C es ≡ None → Faultless C es) → (C.fault x ≡ 0) × Faultless C es
      step true h e later = (grind (arith, nat_tests), later e)
      step false h e later = cc

  pub faultless_none : (es : List E) → Faultless C es → fault_at C es ≡ None
  faultless_none [] a = refl
  faultless_none (x ∷ es) a =
      let first = a.0 in
      let none : (C.fault x == 0) ≡ true = grind (arith, nat_tests) in
      rw none (faultless_none es a.1)

  pub fault_last : (es : List E) (e : E) (k : ℕ) → Faultless C es → C.fault e ≡ k + 1 → fault_at C (es ++ e ∷ []) ≡ Some k
  fault_last [] e k a is =
      let some : (C.fault e == 0) ≡ false = grind (arith, nat_tests) in
      let same : C.fault e - 1 ≡ k = omega (arith, is) in
      rw (some, same) refl
  fault_last (x ∷ es) e k a is =
      let first = a.0 in
      let none : (C.fault x == 0) ≡ true = grind (arith, nat_tests) in
      rw none (fault_last es e k a.1 is)

-- where a history stops, whatever came before
record Stops {P Q A E S : Type 0} (C : Coordination P Q A E S) (plan : P) (s : S) (es : List E) (k : ℕ) : Type 0 where
  before : List E
  last : E
  is : es ≡ before ++ last ∷ []
  faultless : Faultless C before
  fault : C.fault last ≡ k + 1
  within : k < length (C.ops plan (replay_from C plan s before) (C.request last))

module _ {P Q A E S : Type 0} (C : Coordination P Q A E S) (plan : P) (k : ℕ) where
  -- an entry that is a fault is the last
  stops_here : (s : S) (e : E) (es : List E) → FaultIsLast C (e ∷ es) → FaultFits C plan s e → C.fault e ≢ 0 → k ≡ C.fault e - 1 → Stops C plan s (e ∷ es) k
  stops_here s e [] l (inl none) some is = absurd (some none)
  stops_here s e [] l (inr le) some is = record {
    before = [];
    last = e;
    is = refl;
    faultless = tt;
    fault = one_more (C.fault e) some is;
    within = below (C.fault e) (length (C.ops plan s (C.request e))) some is le;
  }
    where
      one_more : (f : ℕ) → f ≢ 0 → k ≡ f - 1 → f ≡ k + 1
      one_more f some is = omega arith

      below : (f n : ℕ) → f ≢ 0 → k ≡ f - 1 → f ≤ n → k < n
      below f n some is le = omega arith
  stops_here s e (f ∷ es) l fits some is = absurd (some l.0)

  last_later : (e : E) (es : List E) → FaultIsLast C (e ∷ es) → FaultIsLast C es
  last_later e [] l = tt
  last_later e (f ∷ es) l = l.1

  stops : (s : S) (es : List E) → FaultIsLast C es → FaultsFit C plan s es → fault_at C es ≡ Some k → Stops C plan s es k
  stops s [] l fit e = cc
  stops s (x ∷ es) l fit e = step (C.fault x == 0) refl e (stops (after_entry C plan s x) es (last_later x es l) fit.1)
    where
      step : (b : Bool) → (C.fault x == 0) ≡ b → cond b (fault_at C es) (Some (C.fault x - 1)) ≡ Some k
          → (fault_at C es ≡ Some k → Stops C plan (after_entry C plan s x) es k) → Stops C plan s (x ∷ es) k
      step true h e later =
          let r = later e in
          record { before = x ∷ r.before; last = r.last; is = ap (λ xs. x ∷ xs) r.is; faultless = (grind (arith, nat_tests), r.faultless); fault = r.fault; within = r.within }
      step false h e later = stops_here s x es l fit.0 (some (C.fault x) h) (let same : C.fault x - 1 ≡ k = cc in sym same)
        where
          some : (f : ℕ) → (f == 0) ≡ false → f ≢ 0
          some f e = grind (arith, nat_tests)

  pub stops_at : (es : List E) → Legal C plan es → fault_at C es ≡ Some k → StopsAt C plan es k
  unfolding replay
  stops_at es l e =
      let r = stops (C.opening plan) es l.well_formed.fault l.faults e in
      record { before = r.before; last = r.last; is = r.is; faultless = r.faultless; fault = r.fault; within = r.within }
