-- The steps on the turn and the slot, and the entry.
use Rattle.std.proofs.Common.{◌≡◌, ◌≢◌, ⊎_elim, ℕ, suc, ◌+◌, ◌-◌, ◌<◌, ◌≤◌, List, [], ◌∷◌, ◌++◌, Bool, true, false, set, sym, refl, ap, ◌∙◌, subst, arith}
use mathlib.Core.Option.{some}
use lib.ListN.{get_elem?}
use Rattle.pw_books.specs.declared.view.View.{View}
use Rattle.pw_books.specs.Books.{count_in, grown, Reads}
use Rattle.pw_books.specs.Machine.{Machine, Fits, Invariant, holds, seat_number}
use Rattle.pw_books.specs.Sums.{bit, once_below}
use Rattle.pw_books.specs.Steps.{take_turn, find_held, slot_out, slot_back, release_with_entry, release_without_entry, led, met_with, let_go, entered, May, after}
use Rattle.pw_books.proofs.Lists.{at_set, total-set, off, bit_one, is_false}
use Rattle.pw_books.proofs.Books.{reads_all, reads_other, count_grown, knows_grown, entries_of-other, prefix_more}
use Rattle.pw_books.proofs.Turns.{stays, gains, loses, one_has}
use Rattle.pw_books.proofs.Facts.{live_holds, other_unmarked, number_below, other_count}
use Rattle.pw_books.proofs.Changes.{changed}

module _ {E : Type 0} (seat_of : E → ℕ) (Good : List E → Type 0) (m : Machine E) (i : Invariant seat_of Good m) (j : ℕ) (v : View E)
    (at : get_elem? m.views j ≡ some v) where
  -- a step that leaves the turn with whom has it
  pub unturned : (w : View E) (made : ℕ) → 0 < v.parts → v.mark ≡ false → w.mark ≡ false → w.parts ≡ v.parts → w.number ≡ v.number
      → w.holds ≡ v.holds
      → ((n : ℕ) → count_in n w.book + once_below n m.made ≡ count_in n v.book + once_below n made)
      → m.made ≤ made → made ≤ 65536 → Fits seat_of m.history made w
      → Invariant seat_of Good record m { made = made; views = set m.views j w }
  unturned w made live unmarked mark parts number same books more most fits = changed seat_of Good m i j v w at made m.turn record {
    live = live;
    parts = parts;
    books = books;
    more = more;
    most = most;
    holder = stays seat_number m.turn holds m.views i.holder j v w at number (ap bit same);
    opens = λ e. off w.mark mark e;
    fits = fits;
  }

  pub keeps_take : (count : ℕ) → May seat_of Good m j v (take_turn count) → Invariant seat_of Good (after seat_of m j v (take_turn count))
  keeps_take count may =
      let a = may.0 in let w = led m.history count v in let f = i.fits j v at in
      changed seat_of Good m i j v w at m.made (suc v.number) record {
        live = a.live;
        parts = refl;
        books = λ n. refl;
        more = omega arith;
        most = i.numbers.most;
        holder = gains seat_number m.turn holds m.views i.holder j v w at refl may.1 refl;
        opens = λ e. off v.mark a.unmarked e;
        fits = record {
          reads = reads_all seat_of m.history v.told v.book f.reads.begins_too f.reads.lists;
          own = f.own;
          slot = λ _. refl;
          leader = λ _. refl;
          at_read = f.at_read;
          spent = λ z. absurd (omega (arith, z, a.live));
        };
      }

  pub keeps_find : May seat_of Good m j v find_held → Invariant seat_of Good (after seat_of m j v find_held)
  keeps_find may =
      let a = may.0 in let f = i.fits j v at in
      unturned (met_with (m.turn - 1) v) m.made a.live a.unmarked a.unmarked refl refl refl (λ n. refl) (omega arith) i.numbers.most record {
        reads = f.reads;
        own = f.own;
        slot = f.slot;
        leader = f.leader;
        at_read = f.at_read;
        spent = λ z. absurd (omega (arith, z, a.live));
      }

  -- the slot's value comes into the hands of who has the turn, or goes back
  slotted : (out : Bool) → v.holds ≡ true → Invariant seat_of Good record m { views = set m.views j (record v { out = out }) }
  slotted out h =
      let f = i.fits j v at in let w : View E = record v { out = out } in let live = live_holds seat_of Good m i j v at h in
      changed seat_of Good m i j v w at m.made m.turn record {
        live = live;
        parts = refl;
        books = λ n. refl;
        more = omega arith;
        most = i.numbers.most;
        holder = stays seat_number m.turn holds m.views i.holder j v w at refl refl;
        opens = λ e. let o = i.opens j v at e in record { place = o.place; number = o.number; all = o.all; turn = o.turn; empty = o.empty };
        fits = record { reads = f.reads; own = f.own; slot = λ _. h; leader = f.leader; at_read = f.at_read; spent = λ z. absurd (omega (arith, z, live)) };
      }

  pub keeps_slot_out : May seat_of Good m j v slot_out → Invariant seat_of Good (after seat_of m j v slot_out)
  keeps_slot_out may = slotted true may.0

  pub keeps_slot_back : May seat_of Good m j v slot_back → Invariant seat_of Good (after seat_of m j v slot_back)
  keeps_slot_back may = slotted false may.0

  pub keeps_let_go : (count : ℕ) → May seat_of Good m j v (release_without_entry count)
      → Invariant seat_of Good (after seat_of m j v (release_without_entry count))
  keeps_let_go count may =
      let f = i.fits j v at in let w = let_go count v in let live = live_holds seat_of Good m i j v at may.0 in
      changed seat_of Good m i j v w at m.made 0 record {
        live = live;
        parts = refl;
        books = λ n. refl;
        more = omega arith;
        most = i.numbers.most;
        holder = loses seat_number m.turn holds m.views i.holder j v w at (omega (arith, bit_one v.holds may.0)) refl;
        opens = λ e. off false refl e;
        fits = record {
          reads = f.reads;
          own = f.own;
          slot = λ e. off v.out may.1 e;
          leader = λ e. off false refl e;
          at_read = f.at_read;
          spent = λ z. absurd (omega (arith, z, live));
        };
      }

  -- # The entry

  module _ (e : E) (count : ℕ) (may : May seat_of Good m j v (release_with_entry e count)) where
    live : 0 < v.parts
    live = live_holds seat_of Good m i j v at may.turn

    own_count : 0 < count_in (seat_of e) v.book
    own_count = omega (arith, (i.fits j v at).own live, ap (λ n. count_in n v.book) may.seat)

    -- the seat's own view
    fits_entered : Fits seat_of (m.history ++ e ∷ []) m.made (entered seat_of e count v)
    fits_entered =
        let f = i.fits j v at in let H = m.history ++ e ∷ [] in let book = grown seat_of v.book e in
        let seen : H ≡ v.seen ++ e ∷ [] = ap (λ l. l ++ e ∷ []) (sym (f.leader may.turn)) in
        record {
          reads = subst (λ l. Reads seat_of H l v.told book) seen (reads_all seat_of H v.told book (prefix_more m.history (e ∷ []) v.told f.reads.begins_too)
              (knows_grown seat_of v.book m.history e f.reads.lists));
          own = λ h. count_grown seat_of v.number v.book e ∙ f.own h;
          slot = λ h. off v.out may.back h;
          leader = λ h. off false refl h;
          at_read = f.at_read;
          spent = λ z. absurd (omega (arith, z, live));
        }

    -- the view of another seat
    fits_beside : (k : ℕ) (u : View E) → k ≢ j → get_elem? m.views k ≡ some u → Fits seat_of (m.history ++ e ∷ []) m.made u
    fits_beside k u ne there =
        let g = i.fits k u there in
        let none : u.holds ≡ false = is_false u.holds (one_has seat_number m.turn holds m.views i.holder j k v u ne at there (omega (arith, bit_one v.holds may.turn))) in
        record {
          reads = reads_other seat_of m.history u.seen u.told u.book e (other_count seat_of Good m i j k v u ne at there (seat_of e) own_count) g.reads;
          own = g.own;
          slot = g.slot;
          leader = λ h. off u.holds none h;
          at_read = g.at_read;
          spent = g.spent;
        }

    pub keeps_enter : Invariant seat_of Good (after seat_of m j v (release_with_entry e count))
    keeps_enter =
        let w = entered seat_of e count v in let H = m.history ++ e ∷ [] in
        record {
          good = may.good;
          numbers = record {
            books = λ n. omega (arith, total-set (λ u. count_in n u.book) m.views j v w at, i.numbers.books n, count_grown seat_of n v.book e);
            strangers = λ n h. let low = number_below seat_of Good m i j v at (seat_of e) own_count in entries_of-other seat_of n m.history e (λ s. omega (arith, s, low, h)) ∙ i.numbers.strangers n h;
            most = i.numbers.most;
          };
          holder = loses seat_number m.turn holds m.views i.holder j v w at (omega (arith, bit_one v.holds may.turn)) refl;
          opens = λ k u there mark. ⊎_elim
              (λ (t : (k ≡ j) × (w ≡ u)). off v.mark may.unmarked (ap (λ (x : View E). x.mark) t.1 ∙ mark))
              (λ (t : (k ≢ j) × (get_elem? m.views k ≡ some u)). absurd (other_unmarked seat_of Good m i j k v u t.0 at t.1 live mark))
              (at_set m.views j k w u there);
          parts = omega (arith, total-set (λ u. u.parts) m.views j v w at, i.parts);
          fits = λ k u there. ⊎_elim
              (λ (t : (k ≡ j) × (w ≡ u)). subst (Fits seat_of H m.made) t.1 fits_entered)
              (λ (t : (k ≢ j) × (get_elem? m.views k ≡ some u)). fits_beside k u t.0 t.1)
              (at_set m.views j k w u there);
        }
