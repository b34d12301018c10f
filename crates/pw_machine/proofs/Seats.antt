-- The steps on word 0: numbers, split, join and read.
use Rattle.std.proofs.Common.{◌≡◌, ℕ, ◌+◌, List, [], ◌∷◌, true, false, get_or, set, refl, ap, ◌∙◌, arith}
use mathlib.Core.Option.{some}
use lib.ListN.{get_elem?}
use Rattle.pw_plan.specs.declared.plan.Plan.{Plan}
use Rattle.pw_model.specs.declared.entry.HistoryEntry.{HistoryEntry}
use Rattle.pw_model.specs.History.{replay}
use Rattle.pw_machine.specs.declared.view.View.{View}
use Rattle.pw_books.specs.Books.{entries_of, count_in, furthest}
use Rattle.pw_machine.specs.Machine.{Machine, now, count_held, spent_view, holds, leads, marks, ServesRequest, Fits, Invariant, IsOpening, seat_of, seat_number}
use Rattle.pw_books.specs.Sums.{as_number, total, bit}
use Rattle.pw_machine.specs.Steps.{draw_number, miss_draw, split_seat, join_seats, read_made, drawn, missed, left_of, right_of, joined, looked, IsIdle, May, after}
use Rattle.pw_books.proofs.Lists.{both_each, more_each, set_else, total-append, total-set, one, none-of, off, once_more}
use Rattle.pw_books.proofs.Books.{begins_furthest, count_split, count_without, count-append, empty_front, list_is, reads_joined, reads_new, reads_without}
use Rattle.pw_books.proofs.Turns.{as_none, one_more}
use Rattle.pw_machine.proofs.Facts.{other_unmarked, number_below, other_count}
use Rattle.pw_machine.proofs.Changes.{turns_stay}
use Rattle.pw_machine.proofs.Requests.{serves_nothing}
use Rattle.pw_machine.proofs.Takes.{unturned}

fits_spent : (P : Plan) (history : List HistoryEntry) (made count : ℕ) → Fits P history made count spent_view
fits_spent P history made count = record {
  reads = record { begins = (history, refl); begins_too = tt; lists = tt; entries = tt };
  own = λ h. absurd (omega (arith, h));
  serves = λ _. serves_nothing P (replay P history);
  holds_records = λ t more. absurd (omega (arith, more));
  slots = λ t more. absurd (omega (arith, more));
  leader = λ h. off false refl h;
  found = λ h. off false refl h;
  notes = record { at_take = tt; at_release = tt; at_read = tt };
  spent = λ _. refl;
}

-- a view that holds nothing
idle_serves : (P : Plan) (history : List HistoryEntry) (made count : ℕ) (v : View) → Fits P history made count v → IsIdle v
    → ServesRequest P (replay P history) v.held v.leads v.request v.releasing
idle_serves P history made count v f idle = f.serves idle.unmarked

module _ (m : Machine) (i : Invariant m) (j : ℕ) (v : View) (at : get_elem? m.views j ≡ some v) where
  -- with the mark it opens the coordinator
  abbrev Opens : ℕ → View → Type 0
  Opens k u = u.mark ≡ true → IsOpening m.given m.history m.count k u

  pub keeps_draw : May m j v draw_number → Invariant (after m j v draw_number)
  keeps_draw may =
      let a = may.0 in let f = i.fits j v at in
      let none-yet : entries_of seat_of m.made m.history ≡ [] = i.numbers.strangers m.made (omega arith) in
      unturned m i j v at (drawn m.made v) (m.made + 1) a.live a.unmarked a.unmarked refl refl refl refl (λ n. omega (arith, once_more n m.made)) (omega arith) (omega (arith, may.1)) record {
        reads = record {
          begins = f.reads.begins;
          begins_too = f.reads.begins_too;
          lists = (none-yet, f.reads.lists);
          entries = (empty_front seat_of m.made m.history (furthest v.told v.seen) (begins_furthest m.history v.seen v.told f.reads.begins f.reads.begins_too) none-yet, f.reads.entries);
        };
        own = λ h. let own = f.own h in let low = number_below m i j v at v.number (omega (arith, own)) in omega (arith, own, none-of m.made v.number (λ e. omega (arith, e, low)));
        serves = f.serves;
        holds_records = f.holds_records;
        slots = f.slots;
        leader = f.leader;
        found = f.found;
        notes = record { at_take = f.notes.at_take; at_release = f.notes.at_release; at_read = omega arith };
        spent = λ z. absurd (omega (arith, z, a.live));
      }

  pub keeps_miss : May m j v miss_draw → Invariant (after m j v miss_draw)
  keeps_miss may =
      let a = may.0 in let f = i.fits j v at in
      unturned m i j v at (missed m.made v) m.made a.live a.unmarked a.unmarked refl refl refl refl (λ n. refl) (omega arith) i.numbers.most record {
        reads = f.reads;
        own = f.own;
        serves = f.serves;
        holds_records = f.holds_records;
        slots = f.slots;
        leader = f.leader;
        found = f.found;
        notes = record { at_take = f.notes.at_take; at_release = f.notes.at_release; at_read = omega arith };
        spent = λ z. absurd (omega (arith, z, a.live));
      }

  pub keeps_read : May m j v read_made → Invariant (after m j v read_made)
  keeps_read a =
      let f = i.fits j v at in
      unturned m i j v at (looked m.made v) m.made a.live a.unmarked a.unmarked refl refl refl refl (λ n. refl) (omega arith) i.numbers.most record {
        reads = record { begins = begins_furthest m.history v.seen v.told f.reads.begins f.reads.begins_too; begins_too = tt; lists = f.reads.lists; entries = f.reads.entries };
        own = f.own;
        serves = f.serves;
        holds_records = f.holds_records;
        slots = f.slots;
        leader = λ h. off v.leads a.no_journal h;
        found = f.found;
        notes = record { at_take = f.notes.at_take; at_release = f.notes.at_release; at_read = omega arith };
        spent = λ z. absurd (omega (arith, z, a.live));
      }

  -- # Split

  module _ (n parts : ℕ) (may : May m j v (split_seat n parts)) where
    fits_left : Fits m.given.plan m.history m.made m.count (left_of n parts v)
    fits_left =
        let a = may.0 in let spare = may.2 in let f = i.fits j v at in
        record {
          reads = reads_without seat_of n m.history v.seen v.told v.book f.reads;
          own = λ h. (count_without n v.number v.book).1 spare.other ∙ f.own (omega (arith, may.4));
          serves = f.serves;
          holds_records = f.holds_records;
          slots = f.slots;
          leader = f.leader;
          found = f.found;
          notes = f.notes;
          spent = λ z. absurd (omega (arith, z, may.4));
        }

    -- the number has no entry yet
    no_entry : entries_of seat_of n m.history ≡ []
    no_entry = let spare = may.2 in list_is seat_of n v.book m.history (omega (arith, spare.in_book)) (i.fits j v at).reads.lists ∙ spare.no_entry

    fits_right : Fits m.given.plan m.history m.made m.count (right_of n parts v)
    fits_right =
        let f = i.fits j v at in
        record {
          reads = reads_new seat_of n m.history v.seen f.reads.begins no_entry;
          own = λ h. omega (arith, one n n refl);
          serves = λ _. serves_nothing m.given.plan (now m);
          holds_records = λ t more. absurd (omega (arith, more));
          slots = λ t more. absurd (omega (arith, more));
          leader = λ h. off false refl h;
          found = λ h. off false refl h;
          notes = record { at_take = tt; at_release = tt; at_read = tt };
          spent = λ z. absurd (omega (arith, z, may.3));
        }

    pub keeps_split : Invariant (after m j v (split_seat n parts))
    keeps_split =
        let a = may.0 in let l = left_of n parts v in let r = right_of n parts v in let vs = set m.views j l in
        record {
          history = i.history;
          numbers = record {
            books = λ k. let spare = may.2 in omega (
              arith,
              total-append (λ u. count_in k u.book) vs (r ∷ []),
              total-set (λ u. count_in k u.book) m.views j v l at,
              i.numbers.books k,
              count_split n k v.book spare.in_book,
            );
            strangers = i.numbers.strangers;
            most = i.numbers.most;
          };
          turns = let t = turns_stay m.given.plan m.turns m.journal m.views i.turns j v l at refl refl refl in record {
            wide = t.wide;
            holders = λ x low. one_more seat_number (get_or m.turns x 0) (holds x) vs (t.holders x low) r refl;
            leader = one_more seat_number m.journal leads vs t.leader r refl;
          };
          opens = more_each Opens m.views j l (λ mark. off v.mark a.unmarked mark)
              (λ k u ne there mark. absurd (other_unmarked m i j k v u ne at there a.live mark)) r (λ k mark. off false refl mark);
          values = i.values;
          registers = λ none. i.registers (omega (arith, total-append marks vs (r ∷ []), total-set marks m.views j v l at, none));
          parts = omega (arith, total-append (λ u. u.parts) vs (r ∷ []), total-set (λ u. u.parts) m.views j v l at, i.parts, may.4);
          fits = more_each (λ k u. Fits m.given.plan m.history m.made m.count u) m.views j l fits_left (λ k u ne there. i.fits k u there) r (λ k. fits_right);
        }

  -- # Join

  module _ (k : ℕ) (w : View) (may : May m j v (join_seats k w)) where
    fits_joined : Fits m.given.plan m.history m.made m.count (joined v w)
    fits_joined =
        let a = may.2 in let f = i.fits j v at in let g = i.fits k w may.1 in
        let mine = f.own a.live in
        let apart = other_count m i j k v w may.0 at may.1 v.number (omega (arith, mine)) in
        record {
          reads = reads_joined seat_of m.history v.seen w.seen v.told w.told v.book w.book may.4 may.5 f.reads g.reads;
          own = λ h. omega (arith, count-append v.number v.book w.book, mine, apart);
          serves = f.serves;
          holds_records = f.holds_records;
          slots = f.slots;
          leader = f.leader;
          found = f.found;
          notes = record { at_take = f.notes.at_take; at_release = f.notes.at_release; at_read = tt };
          spent = λ z. absurd (omega (arith, z, a.live));
        }

    pub keeps_join : Invariant (after m j v (join_seats k w))
    keeps_join =
        let a = may.2 in let c = may.3 in let b = joined v w in let vs : List View = set m.views j b in
        let moved : get_elem? vs k ≡ some w = set_else m.views j k b may.0 ∙ may.1 in
        let both : (h : View → ℕ) → total h (set vs k spent_view) + h w + h v ≡ total h m.views + h b + h spent_view = λ h. omega (
          arith,
          total-set h m.views j v b at,
          total-set h vs k w spent_view moved,
        ) in
        let no-turn : (t : ℕ) → count_held t w.held ≡ 0 = λ t. ap (count_held t) c.held in
        record {
          history = i.history;
          numbers = record {
            books = λ n. omega (arith, both (λ u. count_in n u.book), i.numbers.books n, count-append n v.book w.book);
            strangers = i.numbers.strangers;
            most = i.numbers.most;
          };
          turns = record {
            wide = i.turns.wide;
            holders = λ t low n. omega (
              arith,
              both (as_number seat_number n (holds t)),
              i.turns.holders t low n,
              as_none seat_number (holds t) n w (no-turn t),
              as_none seat_number (holds t) n spent_view refl,
            );
            leader = λ n. omega (arith, both (as_number seat_number n leads), i.turns.leader n, as_none seat_number leads n w (ap bit c.no_journal), as_none seat_number leads n spent_view refl);
          };
          opens = both_each Opens m.views j b (λ mark. off v.mark a.unmarked mark)
              (λ q u ne there mark. absurd (other_unmarked m i j q v u ne at there a.live mark)) k spent_view (λ mark. off false refl mark);
          values = i.values;
          registers = λ none. i.registers (omega (arith, both marks, none, ap bit c.unmarked));
          parts = omega (arith, both (λ u. u.parts), i.parts);
          fits = both_each (λ q u. Fits m.given.plan m.history m.made m.count u) m.views j b fits_joined (λ q u ne there. i.fits q u there)
              k spent_view (fits_spent m.given.plan m.history m.made m.count);
        }
