-- The record of a container: what it holds, and of which plan it is.
use Rattle.std.specs.Prelude.{◌≡◌, ◌<◌, ◌+◌, ℕ, Bool, List, [], ◌∷◌, length, slice_index_or, if◌then◌else◌}
use Rattle.acpi_values.specs.Idle.{rows_of}
use Rattle.pw_plan.specs.declared.domain.Child.{Child}
use Rattle.pw_plan.specs.declared.plan.Plan.{Plan}
use Rattle.pw_plan.specs.Places.{children_at, container_at, row_at, table_of}
use Rattle.pw_model.specs.declared.state.Vote.{Vote}
use Rattle.pw_model.specs.Containers.{allows}
use Rattle.pw_model.specs.Records.{Part, votes}
use Rattle.pw_model.specs.Calls.{node_state}
use Rattle.pw_model.specs.Holding.{HoldsVotes}
use Rattle.pw_idle.specs.declared.node.NodeRec.{NodeRec}

-- the part of a state that it holds
abbrev pub node_part : NodeRec → Part
node_part r = votes r.votes

-- whether a child with this vote allows container n its state i
abbrev pub allows_state : Plan → ℕ → ℕ → Child → Vote → Bool
allows_state P n i c v = allows (table_of P c) v i (row_at (container_at P n).idle i).latency

-- 1 where it is so
abbrev pub one_if : Bool → ℕ
one_if b = if b then 1 else 0

-- how many of these children, with the votes beside them, pass a test
unfoldable pub counted : (Child → Vote → Bool) → List Child → List Vote → ℕ
counted test [] vs = 0
counted test (c ∷ cs) [] = 0
counted test (c ∷ cs) (v ∷ vs) = one_if (test c v) + counted test cs vs

-- For each state of container n, that of state 1 first: how many of its children, which vote so, allow it.
pub record Counts (P : Plan) (n : ℕ) (vs : List Vote) (ks : List ℕ) : Type 0 where
  pub rows : length ks ≡ length (rows_of (container_at P n).idle)
  pub each : (j : ℕ) → j < length (rows_of (container_at P n).idle)
      → slice_index_or ks j 0 ≡ counted (allows_state P n (j + 1)) (children_at P n) vs

-- It is the record of container `r.node` of the plan: it holds a vote for each child, how many of them allow each
-- state, and the state that follows from them.
pub record IsNodeOf (P : Plan) (r : NodeRec) : Type 0 where
  pub exists : r.node < length P.containers
  pub holds : HoldsVotes P r.node r.votes
  pub counts : Counts P r.node r.votes r.allowing
  pub state : r.state ≡ node_state P r.node (node_part r)
