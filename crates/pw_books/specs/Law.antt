-- Over every list of allowed steps from the opened machine the invariant holds.
use Rattle.std.specs.Prelude.{◌≡◌, ℕ, true, List, [], ◌∷◌, Some}
use mathlib.Core.Option.{some}
use lib.ListN.{get_elem?}
use Rattle.pw_books.specs.declared.view.View.{View}
use Rattle.pw_books.specs.Books.{calls_of}
use Rattle.pw_books.specs.Runs.{Turning, Steps as RunSteps}
use Rattle.pw_books.specs.Machine.{Machine, spent_view, Invariant}
use Rattle.pw_books.specs.Steps.{Kind, May, after}

module _ {E : Type 0} where
  -- the first seat holds the turn while it opens the desk
  abbrev pub first_view : View E
  first_view = record spent_view { book = calls_of 0 [] ∷ []; holds = true; parts = 65536; mark = true; read = Some 1 }

  abbrev pub opened : Machine E
  opened = record { made = 1; history = []; turn = 1; views = first_view ∷ [] }

module _ {E : Type 0} (seat_of : E → ℕ) (Good : List E → Type 0) where
  -- the machine as runs have it, of any kind
  abbrev pub desk : Turning (Machine E) (View E) (Kind E)
  desk = record { views = λ m. m.views; May = May seat_of Good; after = after seat_of }

  -- the steps lead from one machine to the other
  abbrev pub Steps : Machine E → List (ℕ × View E × Kind E) → Machine E → Type 0
  Steps = RunSteps desk

  -- each kind of step keeps the invariant
  abbrev pub StepKeeps : Type 0
  StepKeeps = (m : Machine E) (j : ℕ) (v : View E) (k : Kind E) → Invariant seat_of Good m → get_elem? m.views j ≡ some v
      → May seat_of Good m j v k → Invariant seat_of Good (after seat_of m j v k)

  abbrev pub TurnLaw : Type 0
  TurnLaw = (steps : List (ℕ × View E × Kind E)) (end : Machine E) → Good [] → Steps opened steps end → Invariant seat_of Good end
