-- Which records there are on a way, and that their numbers tell them apart.
use Rattle.std.specs.Prelude.{◌≡◌, ◌⊎◌, ℕ, List, [], ◌∷◌, take}
use Rattle.std.specs.List.{AllByRecursion}
use Rattle.pw_plan.specs.declared.plan.Plan.{Plan}
use Rattle.pw_plan.specs.declared.request.Request.{Request}
use Rattle.pw_model.specs.declared.state.State.{State}
use Rattle.pw_model.specs.Records.{IsRecord, Record, footprint, reach}

abbrev pub IsIn : Record → List Record → Type 0
IsIn r [] = ⊥
IsIn r (x ∷ xs) = (r ≡ x) ⊎ IsIn r xs

-- no record stands there twice
abbrev pub NoneTwice : List Record → Type 0
NoneTwice [] = Unit {0}
NoneTwice (r ∷ rs) = (IsIn r rs → ⊥) × NoneTwice rs

-- What a request can take are records of the plan, each once, and what it takes in a state are the first of them.
pub record HasWay (P : Plan) (q : Request) : Type 0 where
  pub exist : AllByRecursion (IsRecord P) (reach P q)
  pub once : NoneTwice (reach P q)
  pub begins : (S : State) → (k : ℕ) × (footprint P S q ≡ take k (reach P q))
