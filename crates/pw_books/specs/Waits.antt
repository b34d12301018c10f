-- No reachable machine is stuck: where a seat finds the turn held, its holder can go on.
use Rattle.std.specs.Prelude.{◌≡◌, ◌⊎◌, ℕ, true, List, []}
use mathlib.Core.Option.{some}
use lib.ListN.{get_elem?}
use Rattle.pw_books.specs.declared.view.View.{View}
use Rattle.pw_books.specs.Machine.{Machine}
use Rattle.pw_books.specs.Steps.{Kind, find_held, slot_back, release_without_entry, May}
use Rattle.pw_books.specs.Law.{opened, Steps}

module _ {E : Type 0} (seat_of : E → ℕ) (Good : List E → Type 0) where
  -- who holds the turn can put the slot's value back, or else release the turn, whatever the registers' count
  pub record CanGoOn (m : Machine E) : Type 0 where
    pub place : ℕ
    pub view : View E
    pub there : get_elem? m.views place ≡ some view
    pub holds_turn : view.holds ≡ true
    pub goes_on : May seat_of Good m place view slot_back ⊎ ((count : ℕ) → May seat_of Good m place view (release_without_entry count))

  abbrev pub NoDeadlock : Type 0
  NoDeadlock = (steps : List (ℕ × View E × Kind E)) (end : Machine E) → Good [] → Steps seat_of Good opened steps end
      → (j : ℕ) (v : View E) → get_elem? end.views j ≡ some v → May seat_of Good end j v find_held → CanGoOn end
