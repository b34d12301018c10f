-- A beginning of the histories that requests allow, followed by the requests that it leaves, is one of them.
use Rattle.std.proofs.Common.{◌≡◌, ◌≢◌, ◌<◌, ◌==◌, ℕ, Bool, true, false, cond, List, [], ◌∷◌, ◌++◌, map, refl, ap, sym, ◌∙◌, append_assoc, append-nil, eq-eqb, ne_eqb, inl, inr}
use Rattle.std.specs.List.{AllByRecursion}
use Rattle.std.proofs.lemmas.Bool.{cases_eq, cases_lt}
use Rattle.pw_kind.specs.History.{Faultless}
use Rattle.pw_kind.proofs.Joining.{legal-faultless, legal-first}
use Rattle.pw_history.specs.Wording.{Wording}
use Rattle.pw_history.specs.Asked.{Begins, IsRunOf, IsStart, completed, left_after, own, requests, without_first}
use Rattle.pw_history.specs.Telling.{EntriesFit}
use Rattle.pw_history.proofs.Each.{each_append}
use Rattle.pw_history.proofs.Firsts.{own-append, own-past, without-other, without-same}

module _ {P Q A E S : Type 0} (W : Wording P Q A E S) where
  -- what begins a history that requests allow begins them
  pub first-begins : (plan : P) (asked : List Q) (es fs : List E) → IsRunOf W plan asked (es ++ fs) → (p : ℕ) → p < W.cpus plan → Begins (own W p (requests W es)) (own W p asked)
  first-begins plan asked es fs run p lt =
      let b = run.begins p lt in
      record {
        rest = own W p (requests W fs) ++ b.rest;
        is = b.is ∙ ap (λ l. l ++ b.rest) (own-append W p es fs) ∙ append_assoc (own W p (requests W es)) (own W p (requests W fs)) b.rest;
      }

  pub first-starts : (plan : P) (asked : List Q) (es fs : List E) → IsRunOf W plan asked (es ++ fs) → IsStart W plan asked es
  first-starts plan asked es fs run = record { legal = legal-first W.kind plan es fs run.legal; begins = λ p lt. first-begins plan asked es fs run p lt }

  -- # The requests that are left

  without_each : (T : Q → Type 0) (p : ℕ) (qs : List Q) → AllByRecursion T qs → AllByRecursion T (without_first W p qs)
  without_each T p [] each = tt
  without_each T p (q ∷ qs) each = step (W.cpu q == p) (without_each T p qs each.1)
    where
      step : (b : Bool) → AllByRecursion T (without_first W p qs) → AllByRecursion T (cond b qs (q ∷ without_first W p qs))
      step true later = each.1
      step false later = (each.0, later)

  left_each : (T : Q → Type 0) (es : List E) (asked : List Q) → AllByRecursion T asked → AllByRecursion T (left_after W asked es)
  left_each T [] asked each = each
  left_each T (e ∷ es) asked each = left_each T es (without_first W (W.asker e) asked) (without_each T (W.asker e) asked each)

module _ {P Q A E S : Type 0} {W : Wording P Q A E S} {plan : P} (fit : EntriesFit W plan) where
  -- # Entries of requests

  requests_of_entries : (qs : List Q) → requests W (map W.entry qs) ≡ qs
  requests_of_entries [] = refl
  requests_of_entries (q ∷ qs) = rw (fit.request q, requests_of_entries qs) refl

  entries_are : (qs : List Q) → AllByRecursion (λ q. W.cpu q < W.cpus plan) qs → AllByRecursion (W.kind.IsEntry plan) (map W.entry qs)
  entries_are [] has = tt
  entries_are (q ∷ qs) has = (fit.entry q has.0, entries_are qs has.1)

  pub entries_faultless : (qs : List Q) → Faultless W.kind (map W.entry qs)
  entries_faultless [] = tt
  entries_faultless (q ∷ qs) = (fit.faultless q, entries_faultless qs)

  -- # After the first entry they begin what it leaves

  module _ (e : E) (es : List E) (asked : List Q) (h : (p : ℕ) → Begins (own W p (requests W (e ∷ es))) (own W p asked)) where
    its_first : (p : ℕ) → W.asker e ≡ p → Begins (W.kind.request e ∷ own W p (requests W es)) (own W p asked)
    its_first p is =
        let found : (W.cpu (W.kind.request e) == p) ≡ true = eq-eqb (W.cpu (W.kind.request e)) p (fit.asker e ∙ is) in
        rw found at (h p)

    of_other : (p : ℕ) → W.asker e ≢ p → Begins (own W p (requests W es)) (own W p asked)
    of_other p ne =
        let other : (W.cpu (W.kind.request e) == p) ≡ false = ne_eqb (W.cpu (W.kind.request e)) p (λ is. ne (sym (fit.asker e) ∙ is)) in
        rw other at (h p)

    its_rest : (p : ℕ) → (is : W.asker e ≡ p) → own W p (without_first W (W.asker e) asked) ≡ own W p (requests W es) ++ (its_first p is).rest
    its_rest p is =
        ap (λ c. own W p (without_first W c asked)) is
        ∙ without-same W p asked (W.kind.request e) (own W p (requests W es) ++ (its_first p is).rest) (its_first p is).is

    next_begins : (p : ℕ) → Begins (own W p (requests W es)) (own W p (without_first W (W.asker e) asked))
    next_begins p = elim (cases_eq (W.asker e) p) [
      | inl is ↦ record { rest = (its_first p is).rest; is = its_rest p is }
      | inr ne ↦ record { rest = (of_other p ne).rest; is = without-other W (W.asker e) p asked ne ∙ (of_other p ne).is }
    ]

    next_own : (left : List Q) (p : ℕ) → own W p (without_first W (W.asker e) asked) ≡ own W p (requests W es) ++ own W p left → own W p asked ≡ own W p (requests W (e ∷ es)) ++ own W p left
    next_own left p later = elim (cases_eq (W.asker e) p) [
      | inl is ↦
          let found : (W.cpu (W.kind.request e) == p) ≡ true = eq-eqb (W.cpu (W.kind.request e)) p (fit.asker e ∙ is) in
          rw found ((its_first p is).is ∙ ap (λ l. W.kind.request e ∷ l) (sym (its_rest p is) ∙ later))
      | inr ne ↦
          let other : (W.cpu (W.kind.request e) == p) ≡ false = ne_eqb (W.cpu (W.kind.request e)) p (λ is. ne (sym (fit.asker e) ∙ is)) in
          rw other (sym (without-other W (W.asker e) p asked ne) ∙ later)
    ]

  own_left : (es : List E) (asked : List Q) → ((p : ℕ) → Begins (own W p (requests W es)) (own W p asked)) → (p : ℕ) → own W p asked ≡ own W p (requests W es) ++ own W p (left_after W asked es)
  own_left [] asked h p = refl
  own_left (e ∷ es) asked h p =
      next_own e es asked h (left_after W (without_first W (W.asker e) asked) es) p (own_left es (without_first W (W.asker e) asked) (next_begins e es asked h) p)

  -- # The law

  module _ (asked : List Q) (es : List E) (has : AllByRecursion (λ q. W.cpu q < W.cpus plan) asked) (none : Faultless W.kind es) (start : IsStart W plan asked es) where
    all_begin : (p : ℕ) → Begins (own W p (requests W es)) (own W p asked)
    all_begin p = elim (cases_lt p (W.cpus plan)) [
      | inl lt ↦ start.begins p lt
      | inr le ↦ record { rest = own W p asked; is = ap (λ l. l ++ own W p asked) (sym (own-past W fit es p start.legal.well_formed.entries le)) }
    ]

    whole : (p : ℕ) → own W p (requests W (completed W asked es)) ≡ own W p asked
    whole p =
        own-append W p es (map W.entry (left_after W asked es))
        ∙ ap (λ l. own W p (requests W es) ++ own W p l) (requests_of_entries (left_after W asked es))
        ∙ sym (own_left es asked all_begin p)

    completed_none : Faultless W.kind (completed W asked es)
    completed_none = each_append (λ e. W.kind.fault e ≡ 0) es (map W.entry (left_after W asked es)) none (entries_faultless (left_after W asked es))

    completed_are : AllByRecursion (W.kind.IsEntry plan) (completed W asked es)
    completed_are =
        each_append (W.kind.IsEntry plan) es (map W.entry (left_after W asked es)) start.legal.well_formed.entries
        (entries_are (left_after W asked es) (left_each W (λ q. W.cpu q < W.cpus plan) es asked has))

    pub completed-run : IsRunOf W plan asked (completed W asked es)
    completed-run = record {
      legal = legal-faultless W.kind plan (completed W asked es) completed_are completed_none;
      begins = λ p lt. record { rest = []; is = sym (whole p) ∙ sym (append-nil (own W p (requests W (completed W asked es)))) };
      whole = λ faultless p lt. whole p;
    }
