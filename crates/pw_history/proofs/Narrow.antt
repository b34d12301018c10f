-- The numbers of histories are as narrow as those of the requests that allow them.
use Rattle.std.proofs.Common.{◌≡◌, ◌<◌, ◌==◌, ◌^◌, ℕ, Bool, true, false, cond, List, [], ◌∷◌, length, refl, sym, subst, inl, inr, Option, Some, None, arith, eq-eqb}
use Rattle.std.specs.List.{AllByRecursion}
use Rattle.std.proofs.lemmas.Bool.{cases_lt}
use Rattle.pw_kind.specs.History.{FaultsFit, after_entry}
use Rattle.pw_kind.proofs.Joining.{each_first}
use Rattle.pw_history.specs.Wording.{Wording}
use Rattle.pw_history.specs.Asked.{IsRunOf, IsStart, Lawful, own, requests}
use Rattle.pw_history.specs.Telling.{EntriesFit, IsNarrowFault, NumbersFit}
use Rattle.pw_history.proofs.Firsts.{own-past}

module _ {P Q A E S : Type 0} (W : Wording P Q A E S) where
  own_each : (T : Q → Type 0) (p : ℕ) (qs : List Q) → AllByRecursion T qs → AllByRecursion T (own W p qs)
  own_each T p [] a = tt
  own_each T p (q ∷ qs) a = step (W.cpu q == p) (own_each T p qs a.1)
    where
      step : (b : Bool) → AllByRecursion T (own W p qs) → AllByRecursion T (cond b (q ∷ own W p qs) (own W p qs))
      step true later = (a.0, later)
      step false later = later

  each_own : (T : Q → Type 0) (qs : List Q) → ((p : ℕ) → AllByRecursion T (own W p qs)) → AllByRecursion T qs
  each_own T [] h = tt
  each_own T (q ∷ qs) h = (first, each_own T qs (λ p. rest p (W.cpu q == p) (h p)))
    where
      first : T q
      first = let found : (W.cpu q == W.cpu q) ≡ true = eq-eqb (W.cpu q) (W.cpu q) refl in (rw found at (h (W.cpu q))).0

      rest : (p : ℕ) (b : Bool) → AllByRecursion T (cond b (q ∷ own W p qs) (own W p qs)) → AllByRecursion T (own W p qs)
      rest p true a = a.1
      rest p false a = a

  pub run-start : (plan : P) (asked : List Q) (es : List E) → IsRunOf W plan asked es → IsStart W plan asked es
  run-start plan asked es run = record { legal = run.legal; begins = run.begins }

  pub lawful-formed : (plan : P) (asked : List Q) (o : Option ℕ) (es : List E) → Lawful W plan asked o es → AllByRecursion (W.kind.IsEntry plan) es
  lawful-formed plan asked None es lawful = lawful.legal.well_formed.entries
  lawful-formed plan asked (Some k) es lawful = subst (AllByRecursion (W.kind.IsEntry plan)) (sym lawful.1) tt

module _ {P Q A E S : Type 0} {W : Wording P Q A E S} {plan : P} {IsNarrow : E → Type 0} {IsNarrowRequest : Q → Type 0} (fit : EntriesFit W plan)
    (numbers : NumbersFit W plan IsNarrow IsNarrowRequest) where
  requests_narrow : (asked : List Q) (es : List E) → AllByRecursion IsNarrowRequest asked → IsStart W plan asked es → AllByRecursion IsNarrowRequest (requests W es)
  requests_narrow asked es lines start = each_own W IsNarrowRequest (requests W es) (λ p. elim (cases_lt p (W.cpus plan)) [
    | inl lt ↦
        let b = start.begins p lt in
        each_first IsNarrowRequest (own W p (requests W es)) b.rest (subst (AllByRecursion IsNarrowRequest) b.is (own_each W IsNarrowRequest p asked lines))
    | inr le ↦ subst (AllByRecursion IsNarrowRequest) (sym (own-past W fit es p start.legal.well_formed.entries le)) tt
  ])

  entries_narrow : (es : List E) (s : S) → AllByRecursion (W.kind.IsEntry plan) es → AllByRecursion IsNarrowRequest (requests W es) → FaultsFit W.kind plan s es → AllByRecursion IsNarrow es
  entries_narrow [] s is h fits = tt
  entries_narrow (e ∷ es) s is h fits =
      let few = numbers.requests s (W.kind.request e) in
      let fault : W.kind.fault e < 2 ^ 32 = elim fits.0 [
        | inl z ↦ omega arith
        | inr le ↦ omega arith
      ] in
      (numbers.entry e is.0 h.0 fault, entries_narrow es (after_entry W.kind plan s e) is.1 h.1 fits.1)

  pub start-narrow : (asked : List Q) (es : List E) → AllByRecursion IsNarrowRequest asked → IsStart W plan asked es → AllByRecursion IsNarrow es
  start-narrow asked es lines start = entries_narrow es (W.kind.opening plan) start.legal.well_formed.entries (requests_narrow asked es lines start) start.legal.faults

  pub opening-narrow : (k : ℕ) → k < length (W.opening_ops plan) → k < 2 ^ 32
  opening-narrow k lt = let few = numbers.opening in omega arith

  pub lawful-opening : (asked : List Q) (o : Option ℕ) (es : List E) → Lawful W plan asked o es → IsNarrowFault o
  lawful-opening asked None es lawful = tt
  lawful-opening asked (Some k) es lawful = opening-narrow k lawful.0

  pub lawful-narrow : (asked : List Q) → AllByRecursion IsNarrowRequest asked → (o : Option ℕ) (es : List E) → Lawful W plan asked o es → AllByRecursion IsNarrow es
  lawful-narrow asked lines None es lawful = start-narrow asked es lines (run-start W plan asked es lawful)
  lawful-narrow asked lines (Some k) es lawful = subst (AllByRecursion IsNarrow) (sym lawful.1) tt
