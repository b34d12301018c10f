-- The kinds of step of the desk's machine: when a seat may take one, and what is so after it.
use Rattle.std.specs.Prelude.{◌≡◌, ◌≢◌, ◌⊎◌, ℕ, suc, ◌+◌, ◌-◌, ◌<◌, true, false, List, [], ◌∷◌, ◌++◌, Some, None, slice_set}
use mathlib.Core.Option.{some}
use lib.ListN.{get_elem?}
use Rattle.pw_books.specs.declared.view.View.{View}
use Rattle.pw_books.specs.Books.{calls_of, count_in, furthest, grown, list_of, without}
use Rattle.pw_books.specs.Machine.{Machine, spent_view}

-- with the registers' count where the turn is taken or released
pub data Kind (E : Type 0) : Type 0 where
  take_turn : ℕ → Kind E
  find_held : Kind E
  slot_out : Kind E
  slot_back : Kind E
  release_with_entry : E → ℕ → Kind E
  release_without_entry : ℕ → Kind E
  draw_number : Kind E
  miss_draw : Kind E
  split_seat : ℕ → ℕ → Kind E
  join_seats : ℕ → View E → Kind E
  read_made : Kind E

module _ {E : Type 0} where
  -- # The view after a step

  abbrev pub led : List E → ℕ → View E → View E
  led history count v = record v { holds = true; seen = history; at_lock = Some count }

  abbrev pub met_with : ℕ → View E → View E
  met_with holder v = record v { met = Some holder; meets = v.meets + 1 }

  -- the slot's value comes into its hands, and back
  abbrev pub in_hand : View E → View E
  in_hand v = record v { out = true }

  abbrev pub in_place : View E → View E
  in_place v = record v { out = false }

  abbrev pub let_go : ℕ → View E → View E
  let_go count v = record v { holds = false; at_unlock = Some count; mark = false }

  abbrev pub drawn : ℕ → View E → View E
  drawn n v = record v { book = calls_of n [] ∷ v.book; read = Some (n + 1) }

  abbrev pub missed : ℕ → View E → View E
  missed made v = record v { read = Some made }

  abbrev pub left_of : ℕ → ℕ → View E → View E
  left_of n parts v = record v { parts = v.parts - parts; book = without n v.book }

  abbrev pub right_of : ℕ → ℕ → View E → View E
  right_of n parts v = record spent_view { number = n; seen = v.seen; book = calls_of n [] ∷ []; parts = parts }

  abbrev pub joined : View E → View E → View E
  joined v w = record v { told = Some w.seen; book = v.book ++ w.book; parts = v.parts + w.parts; read = None }

  abbrev pub looked : ℕ → View E → View E
  looked made v = record v { seen = furthest v.told v.seen; told = None; read = Some made }

  -- # When a step may be taken

  -- a live view without the mark that holds neither the turn nor the slot's value
  pub record IsIdle (v : View E) : Type 0 where
    pub live : 0 < v.parts
    pub unmarked : v.mark ≡ false
    pub no_turn : v.holds ≡ false
    pub no_slot : v.out ≡ false

  -- the number isn't its own, and has no entry
  pub record IsSpare (n : ℕ) (v : View E) : Type 0 where
    pub in_book : count_in n v.book ≡ 1
    pub other : n ≢ v.number
    pub no_entry : list_of n v.book ≡ []

module _ {E : Type 0} (seat_of : E → ℕ) where
  -- it made its entry
  abbrev pub entered : E → ℕ → View E → View E
  entered e count v = record v { holds = false; seen = v.seen ++ e ∷ []; book = grown seat_of v.book e; at_unlock = Some count }

  -- who has the turn, with the slot's value back, adds an entry of its own with which the history may be
  pub record Enters (Good : List E → Type 0) (m : Machine E) (v : View E) (e : E) : Type 0 where
    pub turn : v.holds ≡ true
    pub unmarked : v.mark ≡ false
    pub back : v.out ≡ false
    pub seat : seat_of e ≡ v.number
    pub good : Good (m.history ++ e ∷ [])

  -- when the view v of the machine, at j, may take the step
  abbrev pub May : (List E → Type 0) → Machine E → ℕ → View E → Kind E → Type 0
  May Good m j v (take_turn count) = IsIdle v × (m.turn ≡ 0)
  May Good m j v find_held = IsIdle v × (m.turn ≢ 0)
  May Good m j v slot_out = (v.holds ≡ true) × (v.out ≡ false)
  May Good m j v slot_back = (v.holds ≡ true) × (v.out ≡ true)
  May Good m j v (release_with_entry e count) = Enters Good m v e
  May Good m j v (release_without_entry count) = (v.holds ≡ true) × (v.out ≡ false)
  May Good m j v draw_number = IsIdle v × (m.made < 65536)
  May Good m j v miss_draw = IsIdle v × (((r : ℕ) × (v.read ≡ Some r) × (r < m.made)) ⊎ (m.made ≡ 65536))
  May Good m j v (split_seat n parts) = IsIdle v × (v.told ≡ None) × IsSpare n v × (0 < parts) × (parts < v.parts)
  May Good m j v (join_seats k w) = (k ≢ j) × (get_elem? m.views k ≡ some w) × IsIdle v × IsIdle w × (v.told ≡ None) × (w.told ≡ None)
  May Good m j v read_made = IsIdle v

  -- # The machine after a step

  abbrev pub after : Machine E → ℕ → View E → Kind E → Machine E
  after m j v (take_turn count) = record m { turn = suc v.number; views = slice_set m.views j (led m.history count v) }
  after m j v find_held = record m { views = slice_set m.views j (met_with (m.turn - 1) v) }
  after m j v slot_out = record m { views = slice_set m.views j (in_hand v) }
  after m j v slot_back = record m { views = slice_set m.views j (in_place v) }
  after m j v (release_with_entry e count) =
      record m { history = m.history ++ e ∷ []; turn = 0; views = slice_set m.views j (entered e count v) }
  after m j v (release_without_entry count) = record m { turn = 0; views = slice_set m.views j (let_go count v) }
  after m j v draw_number = record m { made = m.made + 1; views = slice_set m.views j (drawn m.made v) }
  after m j v miss_draw = record m { views = slice_set m.views j (missed m.made v) }
  after m j v (split_seat n parts) = record m { views = slice_set m.views j (left_of n parts v) ++ right_of n parts v ∷ [] }
  after m j v (join_seats k w) = record m { views = slice_set (slice_set m.views j (joined v w)) k spent_view }
  after m j v read_made = record m { views = slice_set m.views j (looked m.made v) }
