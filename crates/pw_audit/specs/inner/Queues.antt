-- What is left for each processor: of a script's lines, or of an entry's operations.
use Rattle.std.specs.Prelude.{◌≡◌, ◌≢◌, ◌<◌, ◌++◌, ◌∷◌, ℕ, List, [], length, slice_index_or}
use Rattle.std.specs.List.{AllByRecursion}
use Rattle.acpi_values.specs.declared.operation.Op.{Op}
use Rattle.pw_history.specs.Asked.{own, requests}
use Rattle.pw_history.specs.Wording.{Wording}
use Rattle.pw_audit.specs.Tracing.{op_cpu}

-- what is left for processor p
abbrev pub left_of : {X : Type 0} → List (List X) → ℕ → List X
left_of queues p = slice_index_or queues p []

-- the first that was left for processor p was taken: it is x
pub record Takes {X : Type 0} (old : List (List X)) (p : ℕ) (x : X) (new : List (List X)) : Type 0 where
  pub size : length new ≡ length old
  pub first : left_of old p ≡ x ∷ left_of new p
  pub others : (k : ℕ) → k ≢ p → left_of new k ≡ left_of old k

-- # Operations

-- o is the first that is left on its processor
pub record IsFirstOp (queues : List (List Op)) (o : Op) : Type 0 where
  pub later : List Op
  pub is : left_of queues (op_cpu o) ≡ o ∷ later

-- what is left for a processor is on it
abbrev pub EachOn : List (List Op) → Type 0
EachOn queues = (p : ℕ) → AllByRecursion (λ o. op_cpu o ≡ p) (left_of queues p)

-- the operations are on processors before this one
abbrev pub AreWithin : ℕ → List Op → Type 0
AreWithin n ops = AllByRecursion (λ o. op_cpu o < n) ops

-- # Requests

module _ {Plan Request Reply Entry State : Type 0} (W : Wording Plan Request Reply Entry State) where
  -- q is the first that is left for its processor
  pub record IsNext (queues : List (List Request)) (q : Request) : Type 0 where
    pub later : List Request
    pub is : left_of queues (W.cpu q) ≡ q ∷ later

  -- For each processor of the plan what is asked for in its name is what the history has of it, and then what is left.
  pub record Leaves (plan : Plan) (asked : List Request) (es : List Entry) (queues : List (List Request)) : Type 0 where
    pub size : length queues ≡ W.cpus plan
    pub each : (p : ℕ) → p < W.cpus plan → own W p asked ≡ own W p (requests W es) ++ left_of queues p

  -- what is left for a processor is asked for in its name
  abbrev pub EachOwn : List (List Request) → Type 0
  EachOwn queues = (p : ℕ) → AllByRecursion (λ q. W.cpu q ≡ p) (left_of queues p)
