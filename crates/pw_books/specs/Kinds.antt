-- Each of the eleven kinds of step is taken in some list of allowed steps.
use Rattle.std.specs.Prelude.{◌≡◌, ℕ, ◌≤◌, List, [], ◌∷◌, ◌++◌}
use Rattle.pw_books.specs.declared.view.View.{View}
use Rattle.pw_books.specs.Machine.{Machine}
use Rattle.pw_books.specs.Steps.{Kind, take_turn, find_held, slot_out, slot_back, release_with_entry, release_without_entry, draw_number, miss_draw, split_seat, join_seats, read_made}
use Rattle.pw_books.specs.Law.{opened, Steps}

-- the place of a kind among the kinds, counted from 1
abbrev pub kind_number : {E : Type 0} → Kind E → ℕ
kind_number (take_turn count) = 1
kind_number find_held = 2
kind_number slot_out = 3
kind_number slot_back = 4
kind_number (release_with_entry e count) = 5
kind_number (release_without_entry count) = 6
kind_number draw_number = 7
kind_number miss_draw = 8
kind_number (split_seat n parts) = 9
kind_number (join_seats k w) = 10
kind_number read_made = 11

module _ {E : Type 0} (seat_of : E → ℕ) (Good : List E → Type 0) where
  -- a list of allowed steps ends with one of this kind
  pub record IsTaken (n : ℕ) : Type 0 where
    pub before : List (ℕ × View E × Kind E)
    pub place : ℕ
    pub view : View E
    pub kind : Kind E
    pub end : Machine E
    pub allowed : Steps seat_of Good opened (before ++ (place, view, kind) ∷ []) end
    pub is : kind_number kind ≡ n

  -- So it is where the first seat may make some entry.
  abbrev pub EachKindIsTaken : Type 0
  EachKindIsTaken = Good [] → (e : E) → seat_of e ≡ 0 → Good (e ∷ []) → (n : ℕ) → 1 ≤ n → n ≤ 11 → IsTaken n
