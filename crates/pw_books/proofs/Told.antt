-- What a step tells its seat: who was met, what a seat that is alone knows, what a new number is.
use Rattle.std.proofs.Common.{⊎_elim, true, ◌≡◌, ◌≢◌, ℕ, zero, suc, ◌-◌, ◌<◌, ◌≤◌, List, [], ◌∷◌, false, Option, Some, cond, eq-eqb, sym, refl, ap, ◌∙◌, subst, arith}
use mathlib.Core.Option.{some, some-injective, some-ne-none}
use mathlib.Core.Logic.{dite}
use native.Mathlib.Decide.{ℕ_discrete, dec_le}
use lib.ListN.{get_elem?}
use Rattle.pw_books.specs.declared.view.View.{View}
use Rattle.pw_books.specs.Books.{entries_of, count_in, furthest, list_of}
use Rattle.pw_books.specs.Machine.{Machine, holds, Invariant, holds, seat_number}
use Rattle.pw_books.specs.Sums.{total, bit, AtMost}
use Rattle.pw_books.specs.Steps.{IsSpare, drawn}
use Rattle.pw_books.specs.Told.{MeetsOther, KnowsAlone, IsTold, SeatsAreTold}
use Rattle.pw_books.proofs.Lists.{term_le, terms_le, one, is_true, either_is, once_yes, once_no}
use Rattle.pw_books.proofs.Books.{begins_furthest, empty_front, known_both, whole_seen}
use Rattle.pw_books.proofs.Turns.{holder}
use Rattle.pw_books.proofs.Facts.{other_unmarked, live_holds, number_below, other_count}

-- # Sums over views of which one counts

pub total_zero : {A : Type 0} (g : A → ℕ) (l : List A) → ((k : ℕ) (u : A) → get_elem? l k ≡ some u → g u ≡ 0) → total g l ≡ 0
total_zero g [] z = refl
total_zero g (y ∷ ys) z = omega (arith, z 0 y refl, total_zero g ys (λ k u e. z (suc k) u e))

pub total_only : {A : Type 0} (g : A → ℕ) (l : List A) (j : ℕ) (v : A) → get_elem? l j ≡ some v
    → ((k : ℕ) (u : A) → k ≢ j → get_elem? l k ≡ some u → g u ≡ 0) → total g l ≡ g v
total_only g [] j v at z = absurd (some-ne-none v (sym at))
total_only g (x ∷ xs) zero v at z = omega (arith, ap g (some-injective x v at), total_zero g xs (λ k u e. z (suc k) u (λ h. omega (arith, h)) e))
total_only g (x ∷ xs) (suc j) v at z = omega (arith, z 0 x (λ h. omega (arith, h)) refl, total_only g xs j v at (λ k u ne e. z (suc k) u (λ h. ne (omega (arith, h))) e))

module _ {E : Type 0} (seat_of : E → ℕ) (Good : List E → Type 0) (m : Machine E) (i : Invariant seat_of Good m) (j : ℕ) (v : View E)
    (at : get_elem? m.views j ≡ some v) where
  -- # Who was met

  -- the holder of a turn that this seat hasn't: its number isn't in this seat's book, and this seat isn't alone
  met_other : m.turn ≢ 0 → v.holds ≡ false → MeetsOther v (m.turn - 1)
  met_other ne none =
      let r = holder seat_number m.turn holds m.views i.holder ne in let u = r.1 in
      let apart : j ≢ r.0 = λ same. absurd (omega (arith, r.3, ap bit none, ap holds (some-injective u v (sym r.2 ∙ (ap (λ k. get_elem? m.views k) (sym same) ∙ at))))) in
      let live = live_holds seat_of Good m i r.0 u r.2 (is_true u.holds r.3) in let own = (i.fits r.0 u r.2).own live in
      let number : u.number ≡ m.turn - 1 = omega (arith, r.4) in record {
        given = omega (arith, number, number_below seat_of Good m i r.0 u r.2 u.number (omega (arith, own)), i.numbers.most);
        stranger = subst (λ n. count_in n v.book ≡ 0) number (other_count seat_of Good m i r.0 j u v apart r.2 at u.number (omega (arith, own)));
        not_alone = omega (arith, live, i.parts, terms_le (λ (x : View E). x.parts) m.views r.0 j u v apart r.2 at);
      }

  -- # The history, as a seat that comes to it knows it

  -- the history has no entry of the book's numbers past what the seat has seen
  pub no_entry_since : (n : ℕ) → 0 < count_in n v.book → entries_of seat_of n m.history ≡ entries_of seat_of n (furthest v.told v.seen)
  no_entry_since n h = let r = (i.fits j v at).reads in known_both seat_of n v.book m.history (furthest v.told v.seen) h r.lists r.entries

  -- while a live view has no mark no other has it
  no_mark : 0 < v.parts → v.mark ≡ false → (k : ℕ) (w : View E) → get_elem? m.views k ≡ some w → w.mark ≡ false
  no_mark live unmarked k w there = dite (ℕ_discrete k j)
      (λ e. ap (λ (x : View E). x.mark) (some-injective w v (sym there ∙ (ap (λ k. get_elem? m.views k) e ∙ at))) ∙ unmarked)
      (λ ne. ⊎_elim (λ (mark : w.mark ≡ true). absurd (other_unmarked seat_of Good m i j k v w ne at there live mark)) (λ (none : w.mark ≡ false). none) (either_is w.mark))

  -- # A seat that is alone

  module _ (alone : v.parts ≡ 65536) where
    other_parts : (k : ℕ) (u : View E) → k ≢ j → get_elem? m.views k ≡ some u → u.parts ≡ 0
    other_parts k u ne there = omega (arith, alone, i.parts, terms_le (λ (x : View E). x.parts) m.views j k v u ne at there)

    -- its book has every number made
    alone_book : (n : ℕ) → n < m.made → count_in n v.book ≡ 1
    alone_book n h = sym (total_only (λ (u : View E). count_in n u.book) m.views j v at (λ k u ne e. ap (λ (x : View E). count_in n x.book) ((i.fits k u e).spent (other_parts k u ne e))))
        ∙ (i.numbers.books n ∙ once_yes n m.made h)

    -- it has seen the whole history
    alone_seen : furthest v.told v.seen ≡ m.history
    alone_seen =
        let r = (i.fits j v at).reads in let far = begins_furthest m.history v.seen v.told r.begins r.begins_too in
        whole_seen seat_of m.history (furthest v.told v.seen) far (λ n. dite (dec_le m.made n)
        (λ le. let none = i.numbers.strangers n le in none ∙ sym (empty_front seat_of n m.history (furthest v.told v.seen) far none))
        (λ nle. no_entry_since n (omega (arith, alone_book n (omega arith)))))

    -- the turn is free where it hasn't it
    alone_turn : v.holds ≡ false → m.turn ≡ 0
    alone_turn none = dite (ℕ_discrete m.turn 0) (λ z. z) (λ ne. absurd (omega (arith, alone, (met_other ne none).not_alone)))

    pub knows_alone : KnowsAlone m v
    knows_alone = record { book = alone_book; seen = alone_seen; turn = alone_turn }

  -- # Numbers

  -- the number that is drawn is in no book, and spare in this one afterwards
  drawn_is_new : count_in m.made v.book ≡ 0
  drawn_is_new = omega (arith, once_no m.made m.made (omega arith), i.numbers.books m.made, term_le (λ (u : View E). count_in m.made u.book) m.views j v at)

  pub drawn_is_spare : 0 < v.parts → IsSpare m.made (drawn m.made v)
  drawn_is_spare live =
      let low = number_below seat_of Good m i j v at v.number (omega (arith, (i.fits j v at).own live)) in
      record { in_book = omega (arith, one m.made m.made refl, drawn_is_new); other = λ e. omega (arith, e, low); no_entry = ap (λ b. cond b [] (list_of m.made v.book)) (eq-eqb m.made m.made refl) }

  read_before : (o : Option ℕ) → AtMost o m.made → (r : ℕ) → o ≡ Some r → r ≤ m.made
  read_before o h r e = subst (λ o. AtMost o m.made) e h

  pub is_told : IsTold seat_of Good m j v
  is_told = record {
    met = λ may. met_other may.1 may.0.no_turn;
    no_entry_since = no_entry_since;
    no_mark = no_mark;
    alone = knows_alone;
    drawn_is_new = drawn_is_new;
    drawn_is_spare = drawn_is_spare;
    read_before = read_before v.read (i.fits j v at).at_read;
    missed_is_more = λ r is ne. let below = read_before v.read (i.fits j v at).at_read r is in omega (arith, below, ne);
    parts_of_two = λ k w ne there. omega (arith, i.parts, terms_le (λ (x : View E). x.parts) m.views j k v w ne at there);
  }

pub seats_told : {E : Type 0} (seat_of : E → ℕ) (Good : List E → Type 0) → SeatsAreTold seat_of Good
seats_told seat_of Good m i j v at = is_told seat_of Good m i j v at
