-- What follows the lines of a start.
use Rattle.std.proofs.Common.{◌≡◌, ◌≢◌, ◌<◌, ◌==◌, ◌∙◌, ℕ, Bool, true, false, cond, List, [], ◌∷◌, ◌++◌, map, length, Option, Some, None, refl, ap, sym, subst, inl, inr, arith, append_assoc, append-nil, eqb-true}
use Rattle.std.specs.List.{AllByRecursion}
use Rattle.std.proofs.lemmas.Bool.{cases_eq, cases_lt, eqb-false}
use Rattle.std.proofs.lemmas.List.{append_cancel_left, get_or_past}
use Rattle.pw_text.specs.Openings.{opened, opening_line}
use Rattle.pw_audit.specs.inner.Queues.{EachOwn, Leaves, Takes, left_of}
use Rattle.pw_audit.specs.inner.Stopping.{MayCome, WithinOpening}
use Rattle.pw_kind.specs.History as histories
use Rattle.pw_history.specs.Asked.{Begins, IsStart, own, requests}
use Rattle.pw_history.specs.HistoryText.{op_line, opening_lines}
use Rattle.pw_history.specs.Wholes.{Starts}
use Rattle.pw_history.specs.Telling.{EntriesFit}
use Rattle.pw_history.specs.Wording.{Wording}
use Rattle.pw_history.proofs.Firsts.{own-append}
use Rattle.pw_history.proofs.Each.{each_append}
use Rattle.pw_kind.proofs.Joining.{each_last, legal-empty, legal-follows, legal-more, replay-append}

module _ {Plan Request Reply Entry State : Type 0} (W : Wording Plan Request Reply Entry State) where
  module _ (plan : Plan) where
    -- # The lines of the opening

    pub opening_is : (o : Option ℕ) → opening_lines W plan o ≡ opening_line o ∷ map (op_line W plan) (opened o (W.opening_ops plan))
    opening_is None = refl
    opening_is (Some k) = refl

    -- # One more entry

    pub replay_step : (H : List Entry) (e : Entry) → histories.replay W.kind plan (H ++ e ∷ []) ≡ histories.after_entry W.kind plan (histories.replay W.kind plan H) e
    replay_step H e = replay-append W.kind plan H (e ∷ [])

    module _ (L : List Request) where
      pub starts_opening : (o : Option ℕ) → WithinOpening (length (W.opening_ops plan)) o → Starts W plan L o []
      starts_opening None w = record { legal = legal-empty W.kind plan; begins = λ p lt. record { rest = own W p L; is = refl } }
      starts_opening (Some k) w = (w, refl)

      pub start_none : IsStart W plan L []
      start_none = starts_opening None tt

      -- # What may come goes on with a start

      module _ (fit : EntriesFit W plan) (H : List Entry) (queues : List (List Request)) (start : IsStart W plan L H) (none : histories.Faultless W.kind H) (leaves : Leaves W plan L H queues) where
        one_own : (e : Entry) (p : ℕ) → (W.asker e) ≡ p → own W p (requests W (e ∷ [])) ≡ W.kind.request e ∷ []
        one_own e p same = step (W.cpu (W.kind.request e) == p) refl
          where
            step : (b : Bool) → (W.cpu (W.kind.request e) == p) ≡ b → cond b (W.kind.request e ∷ []) [] ≡ W.kind.request e ∷ []
            step true t = refl
            step false t = absurd (eqb-false (W.cpu (W.kind.request e)) p t (fit.asker e ∙ same))

        none_own : (e : Entry) (p : ℕ) → (W.asker e) ≢ p → own W p (requests W (e ∷ [])) ≡ []
        none_own e p ne = step (W.cpu (W.kind.request e) == p) refl
          where
            step : (b : Bool) → (W.cpu (W.kind.request e) == p) ≡ b → cond b (W.kind.request e ∷ []) [] ≡ []
            step true t = absurd (ne (sym (fit.asker e) ∙ eqb-true (W.cpu (W.kind.request e)) p t))
            step false t = refl

        own_same : (e : Entry) (p : ℕ) → (W.asker e) ≡ p → own W p (requests W (H ++ e ∷ [])) ≡ own W p (requests W H) ++ W.kind.request e ∷ []
        own_same e p same = own-append W p H (e ∷ []) ∙ ap (λ (l : List Request). own W p (requests W H) ++ l) (one_own e p same)

        own_other : (e : Entry) (p : ℕ) → (W.asker e) ≢ p → own W p (requests W (H ++ e ∷ [])) ≡ own W p (requests W H)
        own_other e p ne = own-append W p H (e ∷ []) ∙ ap (λ (l : List Request). own W p (requests W H) ++ l) (none_own e p ne) ∙ append-nil (own W p (requests W H))

        pub goes_on : (e : Entry) → MayCome W plan (histories.replay W.kind plan H) queues e → IsStart W plan L (H ++ e ∷ [])
        goes_on e may = record {
          legal = legal-more W.kind plan H e start.legal (record { faultless = none; entry = may.entry; fits = may.fits });
          begins = λ p lt. begins p lt;
        }
          where
            begins : (p : ℕ) → p < W.cpus plan → Begins (own W p (requests W (H ++ e ∷ []))) (own W p L)
            begins p lt = elim (cases_eq (W.asker e) p) [
              | inl same ↦ record {
                rest = may.next.later;
                is = leaves.each p lt
                    ∙ ap (λ (l : List Request). own W p (requests W H) ++ l) (ap (left_of queues) (sym (fit.asker e ∙ same)) ∙ may.next.is)
                    ∙ sym (append_assoc (own W p (requests W H)) (W.kind.request e ∷ []) may.next.later) ∙ ap (λ (l : List Request). l ++ may.next.later) (sym (own_same e p same));
              }
              | inr ne ↦ record { rest = left_of queues p; is = leaves.each p lt ∙ ap (λ (l : List Request). l ++ left_of queues p) (sym (own_other e p ne)) }
            ]

        pub may_from : (e : Entry) → IsStart W plan L (H ++ e ∷ []) → MayCome W plan (histories.replay W.kind plan H) queues e
        may_from e more =
            let follows = legal-follows W.kind plan H e more.legal in
            let p = (W.asker e) in
            let b = more.begins p (fit.within e follows.entry) in
            let q = W.kind.request e in
            let whole : own W p (requests W H) ++ left_of queues p ≡ own W p (requests W H) ++ q ∷ b.rest =
            sym (leaves.each p (fit.within e follows.entry)) ∙ b.is ∙ ap (λ (l : List Request). l ++ b.rest) (own_same e p refl) ∙ append_assoc (own W p (requests W H)) (q ∷ []) b.rest in
            record {
              entry = follows.entry;
              fits = follows.fits;
              next = record { later = b.rest; is = ap (left_of queues) (fit.asker e) ∙ append_cancel_left (own W p (requests W H)) (left_of queues p) (q ∷ b.rest) whole };
            }

        pub leaves_step : (e : Entry) (new : List (List Request)) → Takes queues (W.asker e) (W.kind.request e) new → Leaves W plan L (H ++ e ∷ []) new
        leaves_step e new takes = record { size = takes.size ∙ leaves.size; each = λ p lt. each p lt }
          where
            each : (p : ℕ) → p < W.cpus plan → own W p L ≡ own W p (requests W (H ++ e ∷ [])) ++ left_of new p
            each p lt = elim (cases_eq (W.asker e) p) [
              | inl same ↦
                  leaves.each p lt ∙ ap (λ (l : List Request). own W p (requests W H) ++ l) (ap (left_of queues) (sym same) ∙ takes.first ∙ ap (λ (k : ℕ). W.kind.request e ∷ left_of new k) same)
                  ∙ sym (append_assoc (own W p (requests W H)) (W.kind.request e ∷ []) (left_of new p)) ∙ ap (λ (l : List Request). l ++ left_of new p) (sym (own_same e p same))
              | inr ne ↦
                  leaves.each p lt ∙ ap (λ (l : List Request). own W p (requests W H) ++ l) (sym (takes.others p (λ same. ne (sym same))))
                  ∙ ap (λ (l : List Request). l ++ left_of new p) (sym (own_other e p ne))
            ]

        pub faultless_step : (e : Entry) → (W.kind.fault e) ≡ 0 → histories.Faultless W.kind (H ++ e ∷ [])
        faultless_step e z = each_append (λ (x : Entry). (W.kind.fault x) ≡ 0) H (e ∷ []) none (z, tt)

  pub faulty : (H : List Entry) (e : Entry) → (W.kind.fault e) ≢ 0 → histories.Faultless W.kind (H ++ e ∷ []) → ⊥
  faulty [] e ne f = ne f.0
  faulty (x ∷ H) e ne f = faulty H e ne f.1

  -- what is left for a processor is asked for in its name
  own_cpus : (p : ℕ) (qs : List Request) → AllByRecursion (λ q. W.cpu q ≡ p) (own W p qs)
  own_cpus p [] = tt
  own_cpus p (q ∷ qs) = step (W.cpu q == p) refl (own_cpus p qs)
    where
      step : (b : Bool) → (W.cpu q == p) ≡ b → AllByRecursion (λ r. W.cpu r ≡ p) (own W p qs) → AllByRecursion (λ r. W.cpu r ≡ p) (cond b (q ∷ own W p qs) (own W p qs))
      step true t later = (eqb-true (W.cpu q) p t, later)
      step false t later = later

  pub leaves_own : (plan : Plan) (L : List Request) (H : List Entry) (queues : List (List Request)) → Leaves W plan L H queues → EachOwn W queues
  leaves_own plan L H queues leaves p = elim (cases_lt p (length queues)) [
    | inl lt ↦ each_last (λ q. W.cpu q ≡ p) (own W p (requests W H)) (left_of queues p) (subst (AllByRecursion (λ q. W.cpu q ≡ p)) (leaves.each p (omega (arith, leaves.size))) (own_cpus p L))
    | inr ge ↦ let past : left_of queues p ≡ [] = get_or_past queues p [] ge in subst (AllByRecursion (λ q. W.cpu q ≡ p)) (sym past) tt
  ]
