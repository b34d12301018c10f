-- A request depends on the records that it takes alone, and changes no other.
use Rattle.std.specs.Prelude.{if◌then◌else◌}
use Rattle.std.specs.Prelude.{◌≡◌, ◌≤◌, ◌↔◌, ◌++◌, ℕ, suc, List, [], ◌∷◌, length, take, if◌then◌else◌, Contains}
use Rattle.std.specs.List.{AllByRecursion}
use Rattle.pw_plan.specs.declared.plan.Plan.{Plan}
use Rattle.pw_plan.specs.declared.request.Request.{Request}
use Rattle.pw_model.specs.declared.state.State.{State}
use Rattle.pw_model.specs.declared.entry.HistoryEntry.{HistoryEntry}
use Rattle.pw_model.specs.States.{IsState}
use Rattle.pw_model.specs.History.{StatesRequest, replay, request_of}
use Rattle.pw_model.specs.Answers.{after, answer}
use Rattle.pw_model.specs.Operations.{ops_of}
use Rattle.pw_model.specs.Records.{IsRecord, Part, Record, footprint, is_record, part_of}
use Rattle.pw_model.specs.Effects.{Effect, Taken, effect, takes_in}

-- each of these records has the same part in both states
abbrev pub SameParts : Plan → State → State → List Record → Type 0
SameParts P S T rs = AllByRecursion (λ r. part_of P S r ≡ part_of P T r) rs

-- The request does the same in both states.
pub record DoesTheSame (P : Plan) (S T : State) (q : Request) : Type 0 where
  pub places : footprint P S q ≡ footprint P T q
  pub reply : answer P S q ≡ answer P T q
  pub operations : ops_of P S q ≡ ops_of P T q
  pub parts : SameParts P (after P S q) (after P T q) (footprint P S q)

-- What holds of a request in each two states of the plan.
pub record IsLocal (P : Plan) (q : Request) : Type 0 where
  -- what it does follows from the parts of its records
  pub same : (S T : State) → IsState P S → IsState P T → SameParts P S T (footprint P S q) → DoesTheSame P S T q
  -- the parts of the first records tell which is the next, and whether there is one
  pub prefix : (S T : State) (j : ℕ) → IsState P S → IsState P T → SameParts P S T (take j (footprint P S q))
      → take (suc j) (footprint P S q) ≡ take (suc j) (footprint P T q)
  -- in other words: they are the first records in both, and both end there or neither does
  pub first : (S T : State) (j : ℕ) → IsState P S → IsState P T → SameParts P S T (take j (footprint P S q))
      → take j (footprint P S q) ≡ take j (footprint P T q)
  pub ends : (S T : State) (j : ℕ) → IsState P S → IsState P T → SameParts P S T (take j (footprint P S q)) → length (footprint P S q) ≤ j
      ↔ length (footprint P T q) ≤ j
  -- no other record changes
  pub rest : (S : State) (r : Record) → IsState P S → (Contains (footprint P S q) r → ⊥) → part_of P (after P S q) r ≡ part_of P S r

-- # What a request does, by what is held of its records

-- these are the parts that the records hold
abbrev pub Tells : Plan → State → (Record → Part) → List Record → Type 0
Tells P S F rs = AllByRecursion (λ r. part_of P S r ≡ F r) rs

-- In this state the request takes these records, which then have these parts, is answered so and operates so.
pub record IsDone (P : Plan) (S : State) (q : Request) (d : Effect) : Type 0 where
  pub places : footprint P S q ≡ takes_in d.takes
  pub reply : answer P S q ≡ d.reply
  pub operations : ops_of P S q ≡ d.ops
  pub parts : AllByRecursion (λ (t : Taken). part_of P (after P S q) t.place ≡ t.part) d.takes

-- Who holds the parts of a request's first records knows the next, and who holds them all knows what it does.
pub record IsTold (P : Plan) (q : Request) : Type 0 where
  pub next : (S : State) (F : Record → Part) (j : ℕ) → IsState P S → Tells P S F (take j (footprint P S q))
      → take (suc j) (footprint P S q) ≡ take (suc j) (takes_in (effect P F q).takes)
  pub done : (S : State) (F : Record → Part) → IsState P S → Tells P S F (footprint P S q) → IsDone P S q (effect P F q)

-- # Other requests

-- none of the records is one of those
abbrev pub Apart : List Record → List Record → Type 0
Apart rs ts = AllByRecursion (λ r. Contains ts r → ⊥) rs

-- After another request that takes none of a request's first records, these hold the same, and are its first records still,
-- with the same next one.
pub record Stays (P : Plan) (q other : Request) : Type 0 where
  pub parts : (S : State) (rs : List Record) → IsState P S → Apart rs (footprint P S other) → SameParts P S (after P S other) rs
  pub way : (S : State) (j : ℕ) → IsState P S → Apart (take j (footprint P S q)) (footprint P S other)
      → take (suc j) (footprint P S q) ≡ take (suc j) (footprint P (after P S other) q)

-- The same in a history, where one more entry of any request is made, be it a fault or not.
pub record StaysInHistory (P : Plan) (q : Request) : Type 0 where
  pub parts : (es : List HistoryEntry) (e : HistoryEntry) (rs : List Record) → AllByRecursion (StatesRequest P) es → StatesRequest P e
      → Apart rs (footprint P (replay P es) (request_of e))
      → SameParts P (replay P es) (replay P (es ++ e ∷ [])) rs
  pub way : (es : List HistoryEntry) (e : HistoryEntry) (j : ℕ) → AllByRecursion (StatesRequest P) es → StatesRequest P e
      → Apart (take j (footprint P (replay P es) q)) (footprint P (replay P es) (request_of e))
      → take (suc j) (footprint P (replay P es) q) ≡ take (suc j) (footprint P (replay P (es ++ e ∷ [])) q)

-- # A program that keeps records

-- the parts after these are taken
abbrev pub put : (Record → Part) → List Taken → Record → Part
put F [] r = F r
put F (t ∷ ts) r = if is_record r t.place then t.part else put F ts r

-- each record of the plan is told
abbrev pub AllTold : Plan → State → (Record → Part) → Type 0
AllTold P S F = (r : Record) → IsRecord P r → part_of P S r ≡ F r

-- Who keeps the parts of all records keeps them by putting those that a request's effect gives.
abbrev pub KeepsRecords : Plan → Request → Type 0
KeepsRecords P q = (S : State) (F : Record → Part) → IsState P S → AllTold P S F → IsDone P S q (effect P F q)
    × AllTold P (after P S q) (put F (effect P F q).takes)
