-- A way in numbers of turns: its records', and last the journal's, which is their count.
use Rattle.std.specs.Prelude.{◌≡◌, ◌<◌, ◌≤◌, ◌+◌, ◌==◌, ◌++◌, ℕ, false, List, [], ◌∷◌, map, length}
use Rattle.std.specs.List.{AllByRecursion}
use Rattle.pw_plan.specs.declared.plan.Plan.{Plan}
use Rattle.pw_plan.specs.declared.request.Request.{Request}
use Rattle.pw_plan.specs.Groups.{has_member}
use Rattle.pw_model.specs.declared.state.State.{State}
use Rattle.pw_model.specs.Answers.{states_of}
use Rattle.pw_plan.specs.inner.Once.{Once}
use Rattle.pw_model.specs.Locality.{Apart}
use Rattle.pw_model.specs.Records.{IsRecord, Record, footprint, number_of, record_count}

abbrev pub numbers : Plan → List Record → List ℕ
numbers P rs = map (number_of P) rs

abbrev pub route : Plan → State → Request → List ℕ
route P S q = numbers P (footprint P S q) ++ record_count P ∷ []

-- Every turn on a route is one of those that there are, and stands there once; records without a common number are apart.
pub record HasRoute (P : Plan) (q : Request) : Type 0 where
  pub exist : (S : State) → AllByRecursion (IsRecord P) (footprint P S q)
  pub within : (S : State) → AllByRecursion (λ t. t < record_count P + 1) (route P S q)
  pub once : (S : State) (t : ℕ) → Once (λ u. u == t) (route P S q)
  pub apart : (rs ts : List Record) → AllByRecursion (IsRecord P) rs → AllByRecursion (IsRecord P) ts
      → AllByRecursion (λ t. has_member (numbers P ts) t ≡ false) (numbers P rs) → Apart rs ts

-- A chain has at most nine states.
abbrev pub ChainsFit : Plan → Type 0
ChainsFit P = (S : State) (p : ℕ) → length (states_of P S p) ≤ 9
