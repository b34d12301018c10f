-- The step that releases the journal with a new entry.
use Rattle.std.proofs.Common.{◌≡◌, ◌≢◌, inl, ⊎_elim, ℕ, ◌-◌, ◌<◌, List, [], ◌∷◌, ◌++◌, true, false, Some, None, get_or, cond, eq-eqb, sym, refl, ap, ◌∙◌, subst, arith, append_assoc, length-append}
use mathlib.Core.Option.{some}
use lib.ListN.{get_elem?}
use Rattle.pw_plan.specs.declared.plan.Plan.{Plan}
use Rattle.pw_model.specs.declared.state.State.{State}
use Rattle.pw_model.specs.declared.entry.HistoryEntry.{HistoryEntry}
use Rattle.pw_machine.specs.Turns.{count_turn}
use Rattle.pw_model.specs.Operations.{opening_ops}
use Rattle.pw_model.specs.History.{Faultless, request_of, entry_ops, replay, history_ops, fault_at}
use Rattle.pw_model.specs.Records.{record_count}
use Rattle.pw_machine.specs.Turns.{part_at}
use Rattle.pw_machine.proofs.Plans.{legal_next, legal_state, ops_snoc}
use Rattle.pw_machine.specs.declared.view.View.{View}
use Rattle.pw_books.specs.Books.{count_in, grown, Reads}
use Rattle.pw_machine.specs.Machine.{Machine, now, count_held, holds, leads, Fits, HasRegisters, Invariant, seat_of, seat_number}
use Rattle.pw_books.specs.Sums.{bit}
use Rattle.pw_machine.specs.Steps.{release_with_entry, renoted, entered, Enters, after}
use Rattle.pw_books.proofs.Lists.{at_set, total-set, bit_one, off, either_is}
use Rattle.pw_books.proofs.Books.{reads_all, reads_other, prefix_more, knows_grown, count_grown, entries_of-other}
use Rattle.pw_books.proofs.Turns.{none_has, one_has, stays, loses}
use Rattle.pw_machine.proofs.Turns.{count-turns, count_renoted, noted_renoted}
use Rattle.pw_machine.proofs.Facts.{is_state, live_leads, other_unmarked, number_below, other_count}
use Rattle.pw_machine.proofs.Changes.{notes_more}
use Rattle.pw_machine.proofs.Requests.{no_some, serves_releasing, serves_still, entry_stays}
use Rattle.pw_machine.proofs.Takes.{registers_stay}
use Rattle.pw_books.proofs.Changes.{at_most_more}

fault_snoc : (es : List HistoryEntry) (e : HistoryEntry) (k : ℕ) → Faultless es → fault_at (es ++ e ∷ []) ≡ Some k → e.fault ≢ 0
fault_snoc [] e k none has z = let is : fault_at (e ∷ []) ≡ None = ap (λ b. cond b None (Some (e.fault - 1))) (eq-eqb e.fault 0 z) in absurd (cc)
fault_snoc (x ∷ xs) e k none has z = fault_snoc xs e k none.1 (sym (ap (λ b. cond b (fault_at (xs ++ e ∷ [])) (Some (x.fault - 1))) (eq-eqb x.fault 0 none.0)) ∙ has) z

nil_renoted : (P : Plan) (S : State) (v : View) → v.held ≡ [] → renoted P S v.held ≡ []
nil_renoted P S v e = ap (renoted P S) e

module _ (m : Machine) (i : Invariant m) (j : ℕ) (v : View) (at : get_elem? m.views j ≡ some v) (e : HistoryEntry) (count : ℕ) (may : Enters m v e count) where
  -- a request has no mark
  pub entry_unmarked : v.mark ≡ false
  entry_unmarked = ⊎_elim (λ (h : v.mark ≡ true). no_some (request_of e) (sym may.request ∙ (i.opens j v at h).no_request)) (λ (h : v.mark ≡ false). h) (either_is v.mark)

  -- the entry's seat has all that the entry changes
  pub off_entry : (t : ℕ) → t < record_count m.given.plan → count_held t v.held ≡ 0
      → part_at m.given.plan t (replay m.given.plan (m.history ++ e ∷ [])) ≡ part_at m.given.plan t (now m)
  off_entry t low none =
      let whole = ((i.fits j v at).serves entry_unmarked).whole (request_of e) may.request may.leads in
      entry_stays m.given.plan m.history e t i.history.legal may.follows low (ap (count_turn t) (sym whole) ∙ (count-turns t v.held ∙ none))

  -- the count that it found
  found_count : may.first ≡ m.count
  found_count = let a : v.at_lock ≡ Some m.count = (i.fits j v at).found may.leads entry_unmarked in let b : v.at_lock ≡ Some may.first = may.noted in cc

  own_count : 0 < count_in e.seat v.book
  own_count = let f = i.fits j v at in let live = live_leads m i j v at may.leads in omega (arith, f.own live, ap (λ n. count_in n v.book) may.seat)

  -- the seat's own view
  fits_entered : Fits m.given.plan (m.history ++ e ∷ []) m.made count (entered m.given.plan (replay m.given.plan (m.history ++ e ∷ [])) e count v)
  fits_entered =
      let f = i.fits j v at in let P = m.given.plan in let H = m.history ++ e ∷ [] in let S = replay P H in
      let g = f.serves entry_unmarked in
      let live = live_leads m i j v at may.leads in
      let seen : H ≡ v.seen ++ e ∷ [] = ap (λ l. l ++ e ∷ []) (sym (f.leader may.leads)) in
      record {
        reads = subst (λ l. Reads seat_of H l v.told (grown seat_of v.book e)) seen (reads_all seat_of H v.told (grown seat_of v.book e) (prefix_more m.history (e ∷ []) v.told f.reads.begins_too)
            (knows_grown seat_of v.book m.history e f.reads.lists));
        own = λ h. count_grown seat_of v.number v.book e ∙ f.own h;
        serves = λ _. serves_releasing P S (renoted P S v.held) v.request g.of_plan (λ n. nil_renoted P S v (g.rests n).0) (noted_renoted P S v.held);
        holds_records = λ t more. f.holds_records t (omega (arith, more, count_renoted t P S v.held));
        slots = λ t more. ⊎_elim (λ (h : 0 < count_held t v.held). inl (omega (arith, h, count_renoted t P S v.held))) (λ (h : (t ≡ record_count P)
            × (v.leads ≡ true)). absurd (omega (arith, more, may.back, ap (λ t. count_turn t v.out) h.0))) (f.slots t more);
        leader = λ h. off false refl h;
        found = λ h. off false refl h;
        notes = record { at_take = at_most_more v.at_lock m.count count (omega (arith, found_count, may.kept)) f.notes.at_take; at_release = omega arith; at_read = f.notes.at_read };
        spent = λ z. absurd (omega (arith, z, live));
      }

  -- the view of another seat
  fits_beside : (k : ℕ) (u : View) → k ≢ j → get_elem? m.views k ≡ some u → Fits m.given.plan (m.history ++ e ∷ []) m.made count u
  fits_beside k u ne there =
      let g = i.fits k u there in let P = m.given.plan in let H = m.history ++ e ∷ [] in
      let has-it : 0 < bit v.leads = omega (arith, bit_one v.leads may.leads) in
      let none-leads : bit u.leads ≡ 0 = one_has seat_number m.journal leads m.views i.turns.leader j k v u ne at there has-it in
      let no-journal : u.leads ≡ false = ⊎_elim (λ (h : u.leads ≡ true). absurd (omega (arith, none-leads, bit_one u.leads h))) (λ (h : u.leads ≡ false). h) (either_is u.leads) in
      let same : (t : ℕ) → 0 < count_held t u.held → part_at P t (replay P H) ≡ part_at P t (now m) = λ t more.
      let low = g.holds_records t more in off_entry t low (one_has seat_number (get_or m.turns t 0) (holds t) m.views (i.turns.holders t low) k j u v (λ s. ne (sym s)) there at more) in
      record {
        reads = reads_other seat_of m.history u.seen u.told u.book e (other_count m i j k v u ne at there e.seat own_count) g.reads;
        own = g.own;
        serves = λ unmarked. serves_still P (now m) (replay P H) u.held u.leads u.request u.releasing (is_state m i) (legal_state P H (legal_next P m.history e i.history.legal may.follows)) no-journal
            same (g.serves unmarked);
        holds_records = g.holds_records;
        slots = g.slots;
        leader = λ h. off u.leads no-journal h;
        found = λ h. off u.leads no-journal h;
        notes = notes_more m.made m.made m.count count u.at_lock u.at_unlock u.read (omega arith) (omega (arith, found_count, may.kept)) g.notes;
        spent = g.spent;
      }

  -- the registers, once the entry's operations are done
  registers_entered : HasRegisters m.given m.history m.ops m.count
      → HasRegisters m.given (m.history ++ e ∷ []) (m.ops ++ entry_ops m.given.plan (now m) e) count
  registers_entered r =
      let P = m.given.plan in
      record {
        log = ap (λ l. l ++ entry_ops P (now m) e) r.log ∙ (append_assoc (m.given.ops ++ opening_ops P) (history_ops P m.history) (entry_ops P (now m) e) ∙ ap
            (λ l. m.given.ops ++ opening_ops P ++ l) (sym (ops_snoc P m.history e)));
        least = omega (arith, r.least, found_count, may.kept);
        fault = λ k h. λ last. let up = may.fault (fault_snoc m.history e k may.follows.faultless h) last in omega (arith, up, r.least, found_count);
      }

  pub keeps_enter : Invariant (after m j v (release_with_entry e count))
  keeps_enter =
      let P = m.given.plan in let H = m.history ++ e ∷ [] in let w = entered P (replay P H) e count v in let f = i.fits j v at in
      let live = live_leads m i j v at may.leads in
      record {
        history = record { legal = legal_next P m.history e i.history.legal may.follows; room = omega (arith, length-append m.history (e ∷ []), may.room) };
        numbers = record {
          books = λ n. omega (arith, total-set (λ u. count_in n u.book) m.views j v w at, i.numbers.books n, count_grown seat_of n v.book e);
          strangers = λ n h. let low = number_below m i j v at e.seat own_count in entries_of-other seat_of n m.history e (λ s. omega (arith, s, low, h)) ∙ i.numbers.strangers n h;
          most = i.numbers.most;
        };
        turns = record {
          wide = i.turns.wide;
          holders = λ t low. stays seat_number (get_or m.turns t 0) (holds t) m.views (i.turns.holders t low) j v w at refl (count_renoted t P (replay P H) v.held);
          leader = loses seat_number m.journal leads m.views i.turns.leader j v w at (omega (arith, bit_one v.leads may.leads)) refl;
        };
        opens = λ k u there mark. ⊎_elim
            (λ (t : (k ≡ j) × (w ≡ u)). off v.mark entry_unmarked (ap (λ (x : View). x.mark) t.1 ∙ mark))
            (λ (t : (k ≢ j) × (get_elem? m.views k ≡ some u)). absurd (other_unmarked m i j k v u t.0 at t.1 live mark))
            (at_set m.views j k w u there);
        values = record {
          sized = i.values.sized;
          free = λ t low free. i.values.free t low free ∙ ap some (sym (off_entry t low (none_has seat_number (get_or m.turns t 0) (holds t) m.views (i.turns.holders t low) free j v at)));
        };
        registers = λ none. registers_entered (registers_stay m i j v w at refl none);
        parts = omega (arith, total-set (λ u. u.parts) m.views j v w at, i.parts);
        fits = λ k u there. ⊎_elim
            (λ (t : (k ≡ j) × (w ≡ u)). subst (Fits P H m.made count) t.1 fits_entered)
            (λ (t : (k ≢ j) × (get_elem? m.views k ≡ some u)). fits_beside k u t.0 t.1)
            (at_set m.views j k w u there);
      }
