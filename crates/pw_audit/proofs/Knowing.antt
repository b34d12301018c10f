-- What a script asks of processors that the plan hasn't makes no difference.
use Rattle.std.proofs.Common.{◌≡◌, ◌<◌, ◌==◌, ◌∙◌, ℕ, Bool, true, false, cond, List, [], ◌∷◌, length, Option, Some, None, refl, ap, sym, arith, ltb-true, eqb-true}
use Rattle.std.specs.Prelude.{nat_lt}
use Rattle.std.specs.List.{AllByRecursion}
use Rattle.std.proofs.lemmas.Bool.{lt-ltb}
use Rattle.pw_audit.specs.declared.answer.AuditFault.{AuditFault}
use Rattle.pw_audit.specs.declared.answer.AuditFault.TheVariants.{TooLong, Wrong, Unfinished, Memory}
use Rattle.pw_audit.specs.declared.form.Form.{Form}
use Rattle.pw_audit.specs.inner.Stopping.{Refuses, known}
use Rattle.pw_history.specs.Asked.{CanBeAsked, Lawful, own}
use Rattle.pw_history.specs.Wording.{Wording}
use Rattle.pw_audit.specs.Tracing.{BeginsAs, IsWholeAs, ShowsAs}

module _ {Plan Request Reply Entry State : Type 0} (W : Wording Plan Request Reply Entry State) where
  module _ (plan : Plan) where
    abbrev exists : Request → Bool
    exists q = nat_lt (W.cpu q) (W.cpus plan)

    each_known : (T : Request → Type 0) (qs : List Request) → AllByRecursion T qs → AllByRecursion T (known W plan qs)
    each_known T [] a = tt
    each_known T (q ∷ qs) a = step (exists q) (each_known T qs a.1)
      where
        step : (b : Bool) → AllByRecursion T (known W plan qs) → AllByRecursion T (cond b (q ∷ known W plan qs) (known W plan qs))
        step true later = (a.0, later)
        step false later = later

    known_has : (qs : List Request) → AllByRecursion (λ q. W.cpu q < W.cpus plan) (known W plan qs)
    known_has [] = tt
    known_has (q ∷ qs) = step (exists q) refl (known_has qs)
      where
        step : (b : Bool) → exists q ≡ b → AllByRecursion (λ q. W.cpu q < W.cpus plan) (known W plan qs) → AllByRecursion (λ q. W.cpu q < W.cpus plan) (cond b (q ∷ known W plan qs) (known W plan qs))
        step true e later = (ltb-true (W.cpu q) (W.cpus plan) e, later)
        step false e later = later

    pub known_asked : (IsNarrowRequest : Request → Type 0) (qs : List Request) → AllByRecursion IsNarrowRequest qs → CanBeAsked W IsNarrowRequest plan (known W plan qs)
    known_asked IsNarrowRequest qs narrow = record { has = known_has qs; narrow = each_known IsNarrowRequest qs narrow }

    pub own_known : (p : ℕ) (qs : List Request) → p < W.cpus plan → own W p (known W plan qs) ≡ own W p qs
    own_known p [] lt = refl
    own_known p (q ∷ qs) lt = step (exists q) refl (own_known p qs lt)
      where
        step : (b : Bool) → exists q ≡ b → own W p (known W plan qs) ≡ own W p qs → own W p (cond b (q ∷ known W plan qs) (known W plan qs)) ≡ cond (W.cpu q == p) (q ∷ own W p qs) (own W p qs)
        step true e later = ap (λ (l : List Request). cond (W.cpu q == p) (q ∷ l) l) later
        step false e later = other (W.cpu q == p) refl
          where
            other : (t : Bool) → (W.cpu q == p) ≡ t → own W p (known W plan qs) ≡ cond t (q ∷ own W p qs) (own W p qs)
            other true same = absurd (differ (sym e ∙ lt-ltb (W.cpu q) (W.cpus plan) (let is = eqb-true (W.cpu q) p same in omega arith)))
              where
                differ : false ≡ true → ⊥
                differ d = cc
            other false same = later

    module _ (form : Form) (asked : List Request) where
      lawful_to : (o : Option ℕ) (es : List Entry) → Lawful W plan (known W plan asked) o es → Lawful W plan asked o es
      lawful_to (Some k) es h = h
      lawful_to None es h = record {
        legal = h.legal;
        begins = λ p lt. let b = h.begins p lt in record { rest = b.rest; is = sym (own_known p asked lt) ∙ b.is };
        whole = λ none p lt. h.whole none p lt ∙ own_known p asked lt;
      }

      lawful_from : (o : Option ℕ) (es : List Entry) → Lawful W plan asked o es → Lawful W plan (known W plan asked) o es
      lawful_from (Some k) es h = h
      lawful_from None es h = record {
        legal = h.legal;
        begins = λ p lt. let b = h.begins p lt in record { rest = b.rest; is = own_known p asked lt ∙ b.is };
        whole = λ none p lt. h.whole none p lt ∙ sym (own_known p asked lt);
      }

      whole_to : (text : List ℕ) → IsWholeAs W form plan (known W plan asked) text → IsWholeAs W form plan asked text
      whole_to text w = record { o = w.o; entries = w.entries; lawful = lawful_to w.o w.entries w.lawful; is = w.is }

      whole_from : (text : List ℕ) → IsWholeAs W form plan asked text → IsWholeAs W form plan (known W plan asked) text
      whole_from text w = record { o = w.o; entries = w.entries; lawful = lawful_from w.o w.entries w.lawful; is = w.is }

      begins_to : (ls : List (List ℕ)) → BeginsAs W form plan (known W plan asked) ls → BeginsAs W form plan asked ls
      begins_to ls b = record { text = b.text; whole = whole_to b.text b.whole; first = b.first }

      begins_from : (ls : List (List ℕ)) → BeginsAs W form plan asked ls → BeginsAs W form plan (known W plan asked) ls
      begins_from ls b = record { text = b.text; whole = whole_from b.text b.whole; first = b.first }

      pub refuses_to : (text : List ℕ) (fault : AuditFault) → Refuses W form plan (known W plan asked) text fault → Refuses W form plan asked text fault
      refuses_to text (TooLong bound) h = h
      refuses_to text (Wrong line) h = record { some = h.some; within = h.within; wrong = λ b. h.wrong (begins_from _ b); least = λ j lt. begins_to _ (h.least j lt) }
      refuses_to text (Unfinished lines) h = (h.0, record { begins = begins_to _ h.1.begins; lacks = λ w. h.1.lacks (whole_from text w) })
      refuses_to text Memory h = tt

      pub shows_to : (text : List ℕ) (o : Option ℕ) (entries : List Entry) → ShowsAs W form plan (known W plan asked) text o entries → ShowsAs W form plan asked text o entries
      shows_to text o entries h = record { lawful = lawful_to o entries h.lawful; is = h.is; seats = h.seats }
