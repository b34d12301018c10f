-- What is told at an entry, and behind the last one, is right.
use Rattle.std.proofs.Common.{◌≡◌, ◌<◌, ◌+◌, ◌∙◌, ℕ, List, [], ◌∷◌, ◌++◌, length, codes, Option, None, ap, sym, subst, inl, inr, arith, append_assoc, append-nil}
use Rattle.std.proofs.lemmas.Bool.{cases_lt}
use Rattle.std.proofs.lemmas.List.{append_cancel_left, get_or_past, length-append}
use Rattle.pw_text.specs.Lines.{text_of, with_feed}
use Rattle.pw_audit.specs.declared.answer.AuditFault.{AuditFault}
use Rattle.pw_audit.specs.declared.answer.AuditFault.TheVariants.{TooLong, Wrong, Unfinished, Memory}
use Rattle.pw_audit.specs.declared.form.Form.{Form}
use Rattle.pw_audit.specs.declared.form.Form.TheVariants.{Trace}
use Rattle.pw_audit.specs.inner.Queues.{Leaves, left_of}
use Rattle.pw_audit.specs.inner.Stopping.{LacksFirst, NoEntry, Refuses, StopsAtEntry, StopsInOps}
use Rattle.pw_audit.proofs.Coming.{After, after, ended, free_within, next_entry, next_op, not_ended, only_faultless}
use Rattle.pw_audit.proofs.Following.{goes_on, may_from}
use Rattle.pw_audit.proofs.Refusing.{within}
use Rattle.pw_audit.proofs.Showing.{Shown, WholeHas, ends_here, wrong_here}
use Rattle.pw_audit.proofs.Told.{NotFirst, ops_length, tells_append, tells_not_first, tells_one}
use Rattle.pw_kind.specs.History as histories
use Rattle.pw_history.specs.Asked.{Begins, CanBeAsked, IsRunOf, IsStart, Lawful, own, requests}
use Rattle.pw_history.specs.HistoryText.{entry_line, op_line}
use Rattle.pw_history.specs.Wholes.{pieces_of}
use Rattle.pw_history.specs.Telling.{TextsTell}
use Rattle.pw_history.specs.Wording.{Wording}
use Rattle.pw_audit.specs.Tracing.{IsUnfinishedAs, IsWholeAs, IsWrongAs, Opens, Tells, TellsOps}

nothing : {x : List ℕ} {xs : List (List ℕ)} → x ∷ xs ≡ [] → ⊥
nothing e = cc

module _ {Plan Request Reply Entry State : Type 0} {W : Wording Plan Request Reply Entry State} {IsNarrow : Entry → Type 0} {IsNarrowRequest : Request → Type 0} where
  module _ (form : Form) (plan : Plan) (tell : TextsTell W plan IsNarrow IsNarrowRequest) (L : List Request) (are : CanBeAsked W IsNarrowRequest plan L) where
    module _ (H : List Entry) (start : IsStart W plan L H) (first told : List (List ℕ)) (opens : Opens W form plan None first) (tells : Tells W form plan (W.kind.opening plan) 1 H told)
        (text : List ℕ) where
      shown_history : Shown W form plan L (first ++ told)
      shown_history = record {
        o = None;
        entries = H;
        starts = start;
        first = first;
        later = told;
        opens = opens;
        tells = tells;
        more = [];
        is = sym (append-nil (first ++ told));
      }

      -- # The lines of an entry

      module _ (e : Entry) (goes : IsStart W plan L (H ++ e ∷ [])) where
        abbrev front : List (List ℕ) → List (List ℕ)
        front done = (first ++ told) ++ entry_line W plan (histories.replay W.kind plan H) (1 + length H) e ∷ done

        tells_more : (ops : List (List ℕ)) → TellsOps W form plan (histories.entry_ops W.kind plan (histories.replay W.kind plan H) e) ops
            → Tells W form plan (W.kind.opening plan) 1 (H ++ e ∷ []) (told ++ entry_line W plan (histories.replay W.kind plan H) (1 + length H) e ∷ ops)
        unfolding histories.replay
        tells_more ops is =
            tells_append W form plan H (e ∷ []) (W.kind.opening plan) 1 told (entry_line W plan (histories.replay W.kind plan H) (1 + length H) e ∷ ops) tells
            (tells_one W form plan e (histories.replay W.kind plan H) (1 + length H) ops is)

        shown_within : (done later : List (List ℕ)) → TellsOps W form plan (histories.entry_ops W.kind plan (histories.replay W.kind plan H) e) (done ++ later) → Shown W form plan L (front done)
        shown_within done later is = record {
          o = None;
          entries = H ++ e ∷ [];
          starts = goes;
          first = first;
          later = told ++ entry_line W plan (histories.replay W.kind plan H) (1 + length H) e ∷ (done ++ later);
          opens = opens;
          tells = tells_more (done ++ later) is;
          more = later;
          is = sym (append_assoc first told (entry_line W plan (histories.replay W.kind plan H) (1 + length H) e ∷ (done ++ later)))
              ∙ sym (append_assoc (first ++ told) (entry_line W plan (histories.replay W.kind plan H) (1 + length H) e ∷ done) later);
        }

        within_ops : (done later : List (List ℕ)) → TellsOps W form plan (histories.entry_ops W.kind plan (histories.replay W.kind plan H) e) (done ++ later) → 0 < length later
            → length done < length (histories.entry_ops W.kind plan (histories.replay W.kind plan H) e)
        within_ops done later is some =
            let a = ops_length W form plan (histories.entry_ops W.kind plan (histories.replay W.kind plan H) e) (done ++ later) is in
            let b = length-append done later in
            omega (arith, a, b, some)

        here : (done : List (List ℕ)) (o : Option ℕ) (es : List Entry) (other Y : List (List ℕ)) → Lawful W plan L o es → Opens W form plan o other → Tells W form plan (W.kind.opening plan) 1 es Y
            → (zs : List (List ℕ))
            → other ++ Y ≡ front done ++ zs → After form plan tell L are H start first told opens tells (entry_line W plan (histories.replay W.kind plan H) (1 + length H) e ∷ (done ++ zs))
        here done o es other Y lawful opens_o tells_o zs same =
            after form plan tell L are H start first told opens tells (entry_line W plan (histories.replay W.kind plan H) (1 + length H) e ∷ (done ++ zs))
            (λ trace alone. free_within form plan tell L are H start first told opens tells e goes (done ++ zs)) o es other Y lawful opens_o tells_o
            (same ∙ append_assoc (first ++ told) (entry_line W plan (histories.replay W.kind plan H) (1 + length H) e ∷ done) zs)

        pub stops_in_ops : (before : ℕ) (rest : List ℕ) (fault : AuditFault) → before ≡ length (first ++ told)
            → text ≡ text_of (first ++ told) ++ (with_feed (entry_line W plan (histories.replay W.kind plan H) (1 + length H) e) ++ rest)
            → StopsInOps W form plan (histories.entry_ops W.kind plan (histories.replay W.kind plan H) e) (before + 1) rest fault → Refuses W form plan L text fault
        stops_in_ops before rest (TooLong bound) count is stops = absurd stops
        stops_in_ops before rest (Wrong line) count is (breaks, at) =
            let done = breaks.done in
            let size : length (front done) ≡ length (first ++ told) + length (entry_line W plan (histories.replay W.kind plan H) (1 + length H) e ∷ done) =
            length-append (first ++ told) (entry_line W plan (histories.replay W.kind plan H) (1 + length H) e ∷ done) in
            let number : length (front done) + 1 ≡ line = omega arith in
            let lt = within_ops done breaks.later breaks.tells breaks.lacks in
            subst (IsWrongAs W form plan L text) number
            (wrong_here W form plan L tell are (front done) (shown_within done breaks.later breaks.tells) text breaks.rest
            (within (first ++ told) (entry_line W plan (histories.replay W.kind plan H) (1 + length H) e) done text rest breaks.rest is breaks.is) breaks.some
            (λ l b h.
            let a = here done h.o h.entries h.first h.later h.lawful h.opens h.tells (l ∷ h.after) h.is in
            let next = next_op form plan tell L are H start first told opens tells e goes done h.after l lt a in
            breaks.other l next.rest next.fits b))
        stops_in_ops before rest (Unfinished lines) count is (ends, at) =
            let done = ends.done in
            let size : length (front done) ≡ length (first ++ told) + length (entry_line W plan (histories.replay W.kind plan H) (1 + length H) e ∷ done) =
            length-append (first ++ told) (entry_line W plan (histories.replay W.kind plan H) (1 + length H) e ∷ done) in
            let lt = within_ops done ends.later ends.tells ends.lacks in
            let whole : text ≡ text_of (front done) =
            within (first ++ told) (entry_line W plan (histories.replay W.kind plan H) (1 + length H) e) done text rest [] is (ends.is ∙ sym (append-nil (text_of done))) ∙ append-nil
            (text_of (front done)) in
            let h =
            ends_here W form plan L tell are (front done) (shown_within done ends.later ends.tells) text whole
            (λ w same.
            let a = here done w.o w.entries w.is.first w.is.later w.lawful w.is.opens w.is.tells [] (sym same ∙ sym (append-nil (front done))) in
            not_ended form plan tell L are H start first told opens tells e goes (done ++ [])
            (subst (λ (ls : List (List ℕ)). length ls < length (histories.entry_ops W.kind plan (histories.replay W.kind plan H) e)) (sym (append-nil done)) lt) a) in
            let pieces = h.0 in
            (omega arith, h.1)
        stops_in_ops before rest Memory count is stops = tt

      -- # At an entry

      next_here : (l : List ℕ) → (form ≡ Trace → first ≡ codes "open" ∷ [] → H ≡ [] → (zs : List (List ℕ)) → NotFirst plan tell (l ∷ zs)) → (h : WholeHas W form plan L tell (first ++ told) l)
          → After form plan tell L are H start first told opens tells (l ∷ h.after)
      next_here l free h =
          after form plan tell L are H start first told opens tells (l ∷ h.after)
          (λ trace alone. tells_not_first plan tell form H (W.kind.opening plan) 1 told (l ∷ h.after) tells (λ none. free trace alone none h.after)) h.o h.entries h.first h.later h.lawful h.opens
          h.tells h.is

      module _ (queues : List (List Request)) (none : histories.Faultless W.kind H) (leaves : Leaves W plan L H queues) (left : List ℕ) (is : text ≡ text_of (first ++ told) ++ left)
          (out : form ≡ Trace → first ≡ codes "open" ∷ [] → H ≡ [] → LacksFirst W plan left) where
        not_first : (l : List ℕ) → Begins (with_feed l) left → form ≡ Trace → first ≡ codes "open" ∷ [] → H ≡ [] → (zs : List (List ℕ)) → NotFirst plan tell (l ∷ zs)
        not_first l b trace alone empty zs o os rest ops same =
            let line : l ≡ op_line W plan o = cc in
            out trace alone empty o os ops (record { rest = b.rest; is = b.is ∙ ap (λ (x : List ℕ). with_feed x ++ b.rest) line })

        entry_next : NoEntry W plan (histories.replay W.kind plan H) (1 + length H) queues left → (l : List ℕ) → Begins (with_feed l) left → WholeHas W form plan L tell (first ++ told) l → ⊥
        entry_next absent l b h =
            let on = next_entry form plan tell L are H start first told opens tells l h.after (next_here l (not_first l b) h) in
            absent on.entry (may_from W plan L tell.entries H queues start none leaves on.entry on.starts) (record { rest = b.rest; is = b.is ∙ ap (λ (x : List ℕ). with_feed x ++ b.rest) on.line })

        pub at_entry : (before n : ℕ) (fault : AuditFault) → before ≡ length (first ++ told) → n ≡ 1 + length H → 0 < length left
            → StopsAtEntry W form plan (histories.replay W.kind plan H) n queues before left fault → Refuses W form plan L text fault
        at_entry before n fault count number some (inl memory) = subst (Refuses W form plan L text) (sym memory) tt
        at_entry before n fault count number some (inr (inl h)) =
            let absent = subst (λ (m : ℕ). NoEntry W plan (histories.replay W.kind plan H) m queues left) number h.1 in
            subst (Refuses W form plan L text) (sym h.0)
            (subst (λ (m : ℕ). IsWrongAs W form plan L text (m + 1)) (sym count) (wrong_here W form plan L tell are (first ++ told) shown_history text left is some (entry_next absent)))
        at_entry before n fault count number some (inr (inr s)) =
            let e = s.entry in
            let goes : IsStart W plan L (H ++ e ∷ []) = goes_on W plan L tell.entries H queues start none leaves e s.may in
            let line = subst (λ (m : ℕ). left ≡ with_feed (entry_line W plan (histories.replay W.kind plan H) m e) ++ s.rest) number s.is in
            stops_in_ops e goes before s.rest fault count (is ∙ ap (λ (l : List ℕ). text_of (first ++ told) ++ l) line) s.stops

      -- # Behind the last line

      pub behind_fault : (left : List ℕ) → (histories.Faultless W.kind H → ⊥) → text ≡ text_of (first ++ told) ++ left → 0 < length left → IsWrongAs W form plan L text (length (first ++ told) + 1)
      behind_fault left fault is some =
          wrong_here W form plan L tell are (first ++ told) shown_history text left is some
          (λ l b h.
          let a = next_here l (λ trace alone none. absurd (fault (subst (histories.Faultless W.kind) (sym none) tt))) h in
          fault (only_faultless form plan tell L are H start first told opens tells l (next_entry form plan tell L are H start first told opens tells l h.after a)))

      pub lines_left_over : (queues : List (List Request)) → histories.Faultless W.kind H → Leaves W plan L H queues → (((p : ℕ) → left_of queues p ≡ []) → ⊥) → text ≡ text_of (first ++ told)
          → (length (first ++ told) ≡ length (pieces_of text)) × IsUnfinishedAs W form plan L text
      lines_left_over queues none leaves some is = ends_here W form plan L tell are (first ++ told) shown_history text is (λ w same. some (all_made (run w same)))
        where
          run : (w : IsWholeAs W form plan L text) → first ++ told ≡ w.is.first ++ w.is.later → IsRunOf W plan L H
          run w same =
              ended form plan tell L are H start first told opens tells
              (after form plan tell L are H start first told opens tells []
              (λ trace alone. tells_not_first plan tell form H (W.kind.opening plan) 1 told [] tells (λ empty o os rest ops e. nothing (sym e)))
              w.o w.entries w.is.first w.is.later w.lawful w.is.opens w.is.tells (sym same ∙ sym (append-nil (first ++ told))))

          all_made : IsRunOf W plan L H → (p : ℕ) → left_of queues p ≡ []
          all_made whole p = elim (cases_lt p (length queues)) [
            | inl lt ↦
                let below : p < W.cpus plan = omega (arith, leaves.size) in
                sym (append_cancel_left (own W p (requests W H)) [] (left_of queues p) (append-nil (own W p (requests W H)) ∙ whole.whole none p below ∙ leaves.each p below))
            | inr ge ↦ get_or_past queues p [] ge
          ]

module _ {Plan Request Reply Entry State : Type 0} (W : Wording Plan Request Reply Entry State) where
  -- # Whole histories

  pub run_of : (plan : Plan) (L : List Request) (H : List Entry) (queues : List (List Request)) → IsStart W plan L H → Leaves W plan L H queues → ((p : ℕ) → left_of queues p ≡ []) → IsRunOf W plan L H
  run_of plan L H queues start leaves none = record {
    legal = start.legal;
    begins = start.begins;
    whole = λ faultless p lt. sym (leaves.each p lt ∙ ap (λ (l : List Request). own W p (requests W H) ++ l) (none p) ∙ append-nil (own W p (requests W H)));
  }

  pub faulty_run : (plan : Plan) (L : List Request) (H : List Entry) → IsStart W plan L H → (histories.Faultless W.kind H → ⊥) → IsRunOf W plan L H
  faulty_run plan L H start fault = record { legal = start.legal; begins = start.begins; whole = λ faultless. absurd (fault faultless) }
