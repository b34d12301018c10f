-- The desk's machine: its state and its invariant.
use Rattle.std.specs.Prelude.{◌≡◌, ℕ, ◌<◌, ◌≤◌, true, false, List, [], None}
use mathlib.Core.Option.{some}
use lib.ListN.{get_elem?}
use Rattle.pw_books.specs.Books.{Reads, count_in, entries_of}
use Rattle.pw_books.specs.Sums.{AtMost, Named, bit, once_below, total}
use Rattle.pw_books.specs.declared.view.View.{View}

-- # State

-- how many seats were made, the entries in order, the turn, which is 0 where it is free, else its holder's number and 1, and
-- the seats
pub record Machine (E : Type 0) : Type 0 where
  pub made : ℕ
  pub history : List E
  pub turn : ℕ
  pub views : List (View E)

-- the view of a seat that was joined into another
abbrev pub spent_view : {E : Type 0} → View E
spent_view = record {
  number = 0;
  seen = [];
  told = None;
  book = [];
  holds = false;
  out = false;
  at_lock = None;
  at_unlock = None;
  met = None;
  meets = 0;
  parts = 0;
  mark = false;
  read = None;
}

module _ {E : Type 0} where
  abbrev pub seat_number : View E → ℕ
  seat_number v = v.number

  abbrev pub holds : View E → ℕ
  holds v = bit v.holds

  abbrev pub NamesHolder : ℕ → List (View E) → Type 0
  NamesHolder turn views = Named seat_number turn holds views

  -- A view with the mark is the first one's, and no other is live. It has the turn to the last.
  pub record IsOpening (history : List E) (j : ℕ) (v : View E) : Type 0 where
    pub place : j ≡ 0
    pub number : v.number ≡ 0
    pub all : v.parts ≡ 65536
    pub turn : v.holds ≡ true
    pub empty : history ≡ []

module _ {E : Type 0} (seat_of : E → ℕ) where
  -- # What is true of one view

  -- What a seat knows and holds.
  pub record Fits (history : List E) (made : ℕ) (v : View E) : Type 0 where
    pub reads : Reads seat_of history v.seen v.told v.book
    pub own : 0 < v.parts → count_in v.number v.book ≡ 1
    -- the slot's value is in the hands of who has the turn, and that seat has seen the whole history
    pub slot : v.out ≡ true → v.holds ≡ true
    pub leader : v.holds ≡ true → v.seen ≡ history
    -- no number of seats that it read is above what there is
    pub at_read : AtMost v.read made
    pub spent : v.parts ≡ 0 → v ≡ spent_view

  -- # What is true of the machine

  -- Each number made stands in one book, and no other number in any book or in the history.
  pub record HasNumbers (made : ℕ) (history : List E) (views : List (View E)) : Type 0 where
    pub books : (n : ℕ) → total (λ v. count_in n v.book) views ≡ once_below n made
    pub strangers : (n : ℕ) → made ≤ n → entries_of seat_of n history ≡ []
    pub most : made ≤ 65536

  -- over the histories that may be
  pub record Invariant (Good : List E → Type 0) (m : Machine E) : Type 0 where
    pub good : Good m.history
    pub numbers : HasNumbers m.made m.history m.views
    pub holder : NamesHolder m.turn m.views
    pub opens : (j : ℕ) (v : View E) → get_elem? m.views j ≡ some v → v.mark ≡ true → IsOpening m.history j v
    pub parts : total (λ v. v.parts) m.views ≡ 65536
    pub fits : (j : ℕ) (v : View E) → get_elem? m.views j ≡ some v → Fits m.history m.made v
