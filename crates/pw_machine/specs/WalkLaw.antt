-- What a walk over noted parts tells.
use Rattle.std.specs.Prelude.{◌≡◌, ◌<◌, ℕ, List, [], ◌∷◌, ◌++◌}
use Rattle.pw_plan.specs.declared.plan.Plan.{Plan}
use Rattle.pw_plan.specs.declared.request.Request.{Request}
use Rattle.pw_model.specs.declared.state.State.{State}
use Rattle.pw_model.specs.States.{IsState}
use Rattle.pw_model.specs.Answers.{after, answer}
use Rattle.pw_model.specs.Operations.{ops_of}
use Rattle.pw_model.specs.Records.{Part, record_count}
use Rattle.pw_model.specs.Routes.{route}
use Rattle.pw_machine.specs.declared.view.Held.{Held}
use Rattle.pw_machine.specs.Turns.{StartsWith, part_at, way}
use Rattle.pw_machine.specs.Machine.{IsNoted, held_as, turns_of}
use Rattle.pw_machine.specs.Walk.{left, next_turn, over, step, walk}

-- # Which turn comes next

-- It is on the route next, in every state that fits what was noted and in which what is held are the first records of the way.
abbrev pub TellsNext : Plan → Request → List Held → Type 0
TellsNext P q held = (S : State) → IsState P S → IsNoted P S held → StartsWith (way P S q) (turns_of held)
    → StartsWith (route P S q) (turns_of held ++ next_turn P (walk P q held) ∷ [])

-- a record's, where the walk names one
abbrev pub TellsRecord : Plan → Request → List Held → Type 0
TellsRecord P q held = (S : State) (t : ℕ) → IsState P S → IsNoted P S held → StartsWith (way P S q) (turns_of held)
    → next_turn P (walk P q held) ≡ t → t < record_count P → StartsWith (way P S q) (turns_of held ++ t ∷ [])

-- the journal's, where all records are held
abbrev pub TellsEnd : Plan → Request → List Held → Type 0
TellsEnd P q held = (S : State) → IsState P S → IsNoted P S held → StartsWith (way P S q) (turns_of held)
    → next_turn P (walk P q held) ≡ record_count P → turns_of held ≡ way P S q

-- one record more is one step
abbrev pub WalksOn : Plan → Request → List Held → Type 0
WalksOn P q held = (h : Held) → walk P q (held ++ h ∷ []) ≡ step P q (walk P q held) h.noted

-- # What the request does

-- its answer and its operations, once all records are held
abbrev pub TellsAnswer : Plan → Request → List Held → Type 0
TellsAnswer P q held = (S : State) → IsState P S → IsNoted P S held → turns_of held ≡ way P S q
    → walk P q held ≡ over (answer P S q) (ops_of P S q)

-- the part that it leaves a record with, as soon as this one is held, the last of the first records of the way
abbrev pub TellsLeft : Plan → Request → List Held → Type 0
TellsLeft P q held = (S : State) (t : ℕ) (x : Part) → IsState P S → IsNoted P S (held ++ held_as t x ∷ [])
    → StartsWith (way P S q) (turns_of (held ++ held_as t x ∷ [])) → left P q (walk P q held) x ≡ part_at P t (after P S q)
