-- The steps on the number of seats made: numbers, split, join and read.
use Rattle.std.proofs.Common.{◌≡◌, ℕ, ◌+◌, List, [], ◌∷◌, true, false, set, refl, ap, ◌∙◌, arith}
use mathlib.Core.Option.{some}
use lib.ListN.{get_elem?}
use Rattle.pw_books.specs.declared.view.View.{View}
use Rattle.pw_books.specs.Books.{entries_of, count_in, furthest}
use Rattle.pw_books.specs.Machine.{Machine, spent_view, Fits, Invariant, IsOpening, holds, seat_number}
use Rattle.pw_books.specs.Sums.{as_number, total, bit}
use Rattle.pw_books.specs.Steps.{draw_number, miss_draw, split_seat, join_seats, read_made, drawn, missed, left_of, right_of, joined, looked, May, after}
use Rattle.pw_books.proofs.Lists.{both_each, more_each, set_else, total-append, total-set, one, none-of, off, once_more}
use Rattle.pw_books.proofs.Books.{begins_furthest, count_split, count_without, count-append, empty_front, list_is, reads_joined, reads_new, reads_without}
use Rattle.pw_books.proofs.Turns.{as_none, one_more, stays}
use Rattle.pw_books.proofs.Facts.{other_unmarked, number_below, other_count}
use Rattle.pw_books.proofs.Turning.{unturned}

fits_spent : {E : Type 0} (seat_of : E → ℕ) (history : List E) (made : ℕ) → Fits seat_of history made spent_view
fits_spent seat_of history made = record {
  reads = record { begins = (history, refl); begins_too = tt; lists = tt; entries = tt };
  own = λ h. absurd (omega (arith, h));
  slot = λ h. off false refl h;
  leader = λ h. off false refl h;
  at_read = tt;
  spent = λ _. refl;
}

module _ {E : Type 0} (seat_of : E → ℕ) (Good : List E → Type 0) (m : Machine E) (i : Invariant seat_of Good m) (j : ℕ) (v : View E)
    (at : get_elem? m.views j ≡ some v) where
  -- with the mark it opens the desk
  abbrev Opens : ℕ → View E → Type 0
  Opens k u = u.mark ≡ true → IsOpening m.history k u

  pub keeps_draw : May seat_of Good m j v draw_number → Invariant seat_of Good (after seat_of m j v draw_number)
  keeps_draw may =
      let a = may.0 in let f = i.fits j v at in
      let none-yet : entries_of seat_of m.made m.history ≡ [] = i.numbers.strangers m.made (omega arith) in
      unturned seat_of Good m i j v at (drawn m.made v) (m.made + 1) a.live a.unmarked a.unmarked refl refl refl (λ n. omega (arith, once_more n m.made)) (omega arith) (omega (arith, may.1)) record {
        reads = record {
          begins = f.reads.begins;
          begins_too = f.reads.begins_too;
          lists = (none-yet, f.reads.lists);
          entries = (empty_front seat_of m.made m.history (furthest v.told v.seen) (begins_furthest m.history v.seen v.told f.reads.begins f.reads.begins_too) none-yet, f.reads.entries);
        };
        own = λ h. let own = f.own h in let low = number_below seat_of Good m i j v at v.number (omega (arith, own)) in omega (arith, own, none-of m.made v.number (λ e. omega (arith, e, low)));
        slot = f.slot;
        leader = f.leader;
        at_read = omega arith;
        spent = λ z. absurd (omega (arith, z, a.live));
      }

  pub keeps_miss : May seat_of Good m j v miss_draw → Invariant seat_of Good (after seat_of m j v miss_draw)
  keeps_miss may =
      let a = may.0 in let f = i.fits j v at in
      unturned seat_of Good m i j v at (missed m.made v) m.made a.live a.unmarked a.unmarked refl refl refl (λ n. refl) (omega arith) i.numbers.most record {
        reads = f.reads;
        own = f.own;
        slot = f.slot;
        leader = f.leader;
        at_read = omega arith;
        spent = λ z. absurd (omega (arith, z, a.live));
      }

  pub keeps_read : May seat_of Good m j v read_made → Invariant seat_of Good (after seat_of m j v read_made)
  keeps_read a =
      let f = i.fits j v at in
      unturned seat_of Good m i j v at (looked m.made v) m.made a.live a.unmarked a.unmarked refl refl refl (λ n. refl) (omega arith) i.numbers.most record {
        reads = record { begins = begins_furthest m.history v.seen v.told f.reads.begins f.reads.begins_too; begins_too = tt; lists = f.reads.lists; entries = f.reads.entries };
        own = f.own;
        slot = f.slot;
        leader = λ h. off v.holds a.no_turn h;
        at_read = omega arith;
        spent = λ z. absurd (omega (arith, z, a.live));
      }

  -- # Split

  module _ (n parts : ℕ) (may : May seat_of Good m j v (split_seat n parts)) where
    fits_left : Fits seat_of m.history m.made (left_of n parts v)
    fits_left =
        let spare = may.2 in let f = i.fits j v at in
        record {
          reads = reads_without seat_of n m.history v.seen v.told v.book f.reads;
          own = λ h. (count_without n v.number v.book).1 spare.other ∙ f.own (omega (arith, may.4));
          slot = f.slot;
          leader = f.leader;
          at_read = f.at_read;
          spent = λ z. absurd (omega (arith, z, may.4));
        }

    -- the number has no entry yet
    no_entry : entries_of seat_of n m.history ≡ []
    no_entry = let spare = may.2 in list_is seat_of n v.book m.history (omega (arith, spare.in_book)) (i.fits j v at).reads.lists ∙ spare.no_entry

    fits_right : Fits seat_of m.history m.made (right_of n parts v)
    fits_right =
        let f = i.fits j v at in
        record {
          reads = reads_new seat_of n m.history v.seen f.reads.begins no_entry;
          own = λ h. omega (arith, one n n refl);
          slot = λ h. off false refl h;
          leader = λ h. off false refl h;
          at_read = tt;
          spent = λ z. absurd (omega (arith, z, may.3));
        }

    pub keeps_split : Invariant seat_of Good (after seat_of m j v (split_seat n parts))
    keeps_split =
        let a = may.0 in let l = left_of n parts v in let r = right_of n parts v in let vs = set m.views j l in
        record {
          good = i.good;
          numbers = record {
            books = λ k. let spare = may.2 in omega (
              arith,
              total-append (λ u. count_in k u.book) vs (r ∷ []),
              total-set (λ u. count_in k u.book) m.views j v l at,
              i.numbers.books k,
              count_split n k v.book spare.in_book,
            );
            strangers = i.numbers.strangers;
            most = i.numbers.most;
          };
          holder = one_more seat_number m.turn holds vs (stays seat_number m.turn holds m.views i.holder j v l at refl refl) r refl;
          opens = more_each Opens m.views j l (λ mark. off v.mark a.unmarked mark)
              (λ k u ne there mark. absurd (other_unmarked seat_of Good m i j k v u ne at there a.live mark)) r (λ k mark. off false refl mark);
          parts = omega (arith, total-append (λ u. u.parts) vs (r ∷ []), total-set (λ u. u.parts) m.views j v l at, i.parts, may.4);
          fits = more_each (λ k u. Fits seat_of m.history m.made u) m.views j l fits_left (λ k u ne there. i.fits k u there) r (λ k. fits_right);
        }

  -- # Join

  module _ (k : ℕ) (w : View E) (may : May seat_of Good m j v (join_seats k w)) where
    fits_joined : Fits seat_of m.history m.made (joined v w)
    fits_joined =
        let a = may.2 in let f = i.fits j v at in let g = i.fits k w may.1 in
        let mine = f.own a.live in
        let apart = other_count seat_of Good m i j k v w may.0 at may.1 v.number (omega (arith, mine)) in
        record {
          reads = reads_joined seat_of m.history v.seen w.seen v.told w.told v.book w.book may.4 may.5 f.reads g.reads;
          own = λ h. omega (arith, count-append v.number v.book w.book, mine, apart);
          slot = f.slot;
          leader = f.leader;
          at_read = tt;
          spent = λ z. absurd (omega (arith, z, a.live));
        }

    pub keeps_join : Invariant seat_of Good (after seat_of m j v (join_seats k w))
    keeps_join =
        let a = may.2 in let c = may.3 in let b = joined v w in let vs : List (View E) = set m.views j b in
        let moved : get_elem? vs k ≡ some w = set_else m.views j k b may.0 ∙ may.1 in
        let both : (h : View E → ℕ) → total h (set vs k spent_view) + h w + h v ≡ total h m.views + h b + h spent_view = λ h. omega (
          arith,
          total-set h m.views j v b at,
          total-set h vs k w spent_view moved,
        ) in
        record {
          good = i.good;
          numbers = record {
            books = λ n. omega (arith, both (λ u. count_in n u.book), i.numbers.books n, count-append n v.book w.book);
            strangers = i.numbers.strangers;
            most = i.numbers.most;
          };
          holder = λ n. omega (arith, both (as_number seat_number n holds), i.holder n, as_none seat_number holds n w (ap bit c.no_turn), as_none (seat_number {E = E}) holds n spent_view refl);
          opens = both_each Opens m.views j b (λ mark. off v.mark a.unmarked mark)
              (λ q u ne there mark. absurd (other_unmarked seat_of Good m i j q v u ne at there a.live mark)) k spent_view (λ mark. off false refl mark);
          parts = omega (arith, both (λ u. u.parts), i.parts);
          fits = both_each (λ q u. Fits seat_of m.history m.made u) m.views j b fits_joined (λ q u ne there. i.fits q u there) k spent_view (fits_spent seat_of m.history m.made);
        }
