-- Turns: one for each record, by its number, and one for the journal, whose number is the records' count.
use Rattle.std.specs.Prelude.{◌≡◌, ℕ, ◌+◌, List, [], ◌∷◌, ◌++◌, ◌==◌, cond}
use Rattle.pw_plan.specs.declared.plan.Plan.{Plan}
use Rattle.pw_plan.specs.declared.request.Request.{Request}
use Rattle.pw_model.specs.declared.state.State.{State}
use Rattle.pw_model.specs.Records.{Part, footprint, part_of, record_at}
use Rattle.pw_model.specs.Routes.{numbers}

-- the part of a state that the record of a turn holds
unfoldable pub part_at : Plan → ℕ → State → Part
part_at P t S = part_of P S (record_at P t)

-- the turns of the records that a request takes in a state, in order
unfoldable pub way : Plan → State → Request → List ℕ
way P S q = numbers P (footprint P S q)

-- how often a turn is in the list
abbrev pub count_turn : ℕ → List ℕ → ℕ
count_turn t [] = 0
count_turn t (x ∷ xs) = cond (x == t) 1 0 + count_turn t xs

-- the list has this front
abbrev pub StartsWith : List ℕ → List ℕ → Type 0
StartsWith all front = (rest : List ℕ) × (all ≡ front ++ rest)
