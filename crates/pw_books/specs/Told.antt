-- What a step tells the seat that takes it, of whatever machine it finds.
use Rattle.std.specs.Prelude.{◌≡◌, ◌≢◌, ℕ, ◌+◌, ◌-◌, ◌<◌, ◌≤◌, false, List, Some}
use mathlib.Core.Option.{some}
use lib.ListN.{get_elem?}
use Rattle.pw_books.specs.declared.view.View.{View}
use Rattle.pw_books.specs.Books.{count_in, entries_of, furthest}
use Rattle.pw_books.specs.Machine.{Machine, Invariant}
use Rattle.pw_books.specs.Steps.{IsSpare, May, drawn, find_held}

module _ {E : Type 0} where
  -- Who was met has a number that was given, is none of the seats in the book, and is not gone.
  pub record MeetsOther (v : View E) (holder : ℕ) : Type 0 where
    pub given : holder < 65536
    pub stranger : count_in holder v.book ≡ 0
    pub not_alone : v.parts < 65536

  -- What a seat with all parts knows.
  pub record KnowsAlone (m : Machine E) (v : View E) : Type 0 where
    -- its book has every number made, and it has seen the whole history
    pub book : (n : ℕ) → n < m.made → count_in n v.book ≡ 1
    pub seen : furthest v.told v.seen ≡ m.history
    -- the turn is free where it hasn't it
    pub turn : v.holds ≡ false → m.turn ≡ 0

module _ {E : Type 0} (seat_of : E → ℕ) (Good : List E → Type 0) where
  pub record IsTold (m : Machine E) (j : ℕ) (v : View E) : Type 0 where
    pub met : May seat_of Good m j v find_held → MeetsOther v (m.turn - 1)
    -- past what the seat has seen the history has no entry of its book's numbers
    pub no_entry_since : (n : ℕ) → 0 < count_in n v.book → entries_of seat_of n m.history ≡ entries_of seat_of n (furthest v.told v.seen)
    -- while the desk is being opened no seat without the mark is live
    pub no_mark : 0 < v.parts → v.mark ≡ false → (k : ℕ) (w : View E) → get_elem? m.views k ≡ some w → w.mark ≡ false
    pub alone : v.parts ≡ 65536 → KnowsAlone m v
    -- the number that is drawn is in no book, and can then be given away
    pub drawn_is_new : count_in m.made v.book ≡ 0
    pub drawn_is_spare : 0 < v.parts → IsSpare m.made (drawn m.made v)
    -- the numbers made only rise: one that was read is not above them, and a draw that misses finds a greater one
    pub read_before : (r : ℕ) → v.read ≡ Some r → r ≤ m.made
    pub missed_is_more : (r : ℕ) → v.read ≡ Some r → m.made ≢ r → r < m.made
    -- no two seats have more than all parts
    pub parts_of_two : (k : ℕ) (w : View E) → k ≢ j → get_elem? m.views k ≡ some w → v.parts + w.parts ≤ 65536

  abbrev pub SeatsAreTold : Type 0
  SeatsAreTold = (m : Machine E) → Invariant seat_of Good m → (j : ℕ) (v : View E) → get_elem? m.views j ≡ some v → IsTold m j v
