-- Over every list of allowed steps from the opened machine the invariant holds.
use Rattle.std.specs.Prelude.{◌≡◌, ℕ, suc, true, List, [], ◌∷◌, length, Some}
use mathlib.Core.Option.{some}
use lib.ListN.{get_elem?}
use Rattle.pw_model.specs.Records.{Part}
use Rattle.pw_model.specs.Records.{record_count}
use Rattle.pw_machine.specs.declared.view.Held.{Held}
use Rattle.pw_machine.specs.declared.view.View.{View}
use Rattle.pw_books.specs.Books.{calls_of}
use Rattle.pw_books.specs.Runs.{Turning, Steps as RunSteps}
use Rattle.pw_machine.specs.Machine.{Given, Machine, held_as, spent_view, Invariant}
use Rattle.pw_machine.specs.Steps.{Kind, May, after}

-- the records from t on, held by the first seat
abbrev pub all_held : ℕ → List Part → List Held
all_held t [] = []
all_held t (x ∷ xs) = held_as t x ∷ all_held (suc t) xs

-- a turn of each, held by seat 0
abbrev pub all_turns : List Part → List ℕ
all_turns [] = []
all_turns (x ∷ xs) = 1 ∷ all_turns xs

abbrev pub first_view : List Part → View
first_view values = record spent_view {
  book = calls_of 0 [] ∷ [];
  held = all_held 0 values;
  leads = true;
  parts = 65536;
  mark = true;
  read = Some 1;
}

-- while open runs the records may have any values
abbrev pub opened : Given → List Part → Machine
opened given values = record {
  given = given;
  made = 1;
  history = [];
  turns = all_turns values;
  journal = 1;
  values = values;
  ops = given.ops;
  count = given.count;
  views = first_view values ∷ [];
}

-- the machine as runs have it, of any kind
abbrev pub power : Turning Machine View Kind
power = record { views = λ m. m.views; May = May; after = after }

-- the steps lead from one machine to the other
abbrev pub Steps : Machine → List (ℕ × View × Kind) → Machine → Type 0
Steps = RunSteps power

-- each kind of step keeps the invariant
abbrev pub StepKeeps : Type 0
StepKeeps = (m : Machine) (j : ℕ) (v : View) (k : Kind) → Invariant m → get_elem? m.views j ≡ some v → May m j v k
    → Invariant (after m j v k)

abbrev pub TurnLaw : Type 0
TurnLaw = (given : Given) (values : List Part) (steps : List (ℕ × View × Kind)) (end : Machine) → length values ≡ record_count given.plan
    → Steps (opened given values) steps end → Invariant end
