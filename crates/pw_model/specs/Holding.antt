-- What a record may hold.
use Rattle.std.specs.Prelude.{◌≡◌, ◌<◌, ◌≤◌, ℕ, List, length, slice_index_or}
use Rattle.acpi_values.specs.Idle.{rows_of}
use Rattle.pw_plan.specs.declared.domain.Child.TheVariants.{Cpu}
use Rattle.pw_plan.specs.declared.plan.Plan.{Plan}
use Rattle.pw_plan.specs.Parts.{scale_of}
use Rattle.pw_plan.specs.Places.{children_at, cpu_at, domain_at, group_at, table_of}
use Rattle.pw_model.specs.declared.state.Vote.{Vote}
use Rattle.pw_model.specs.States.{IsIndex, IsProper, running}
use Rattle.pw_model.specs.Records.{Part, Record, container, domain, group, levels, states, votes}

-- the table of the child at place k, and the processor of the member there
abbrev pub table_at : Plan → ℕ → ℕ → ℕ
table_at P n k = length (rows_of (table_of P (slice_index_or (children_at P n) k (Cpu 0))))

abbrev pub member_in : List ℕ → ℕ → ℕ
member_in ms k = slice_index_or ms k 0

-- A vote for each child, of the child's table.
pub record HoldsVotes (P : Plan) (n : ℕ) (vs : List Vote) : Type 0 where
  pub children : length vs ≡ length (children_at P n)
  pub states : (k : ℕ) → k < length (children_at P n) → (slice_index_or vs k running).state ≤ table_at P n k
  pub proper : (k : ℕ) → k < length (children_at P n) → IsProper (slice_index_or vs k running)

-- An ask and a limit for each member, of the member's scale.
pub record HoldsLevels (P : Plan) (d : ℕ) (asks limits : List ℕ) : Type 0 where
  pub asked : length asks ≡ length (domain_at P d).members
  pub limited : length limits ≡ length (domain_at P d).members
  pub ask : (k : ℕ) → k < length (domain_at P d).members
      → IsIndex (scale_of (domain_at P d).kind (cpu_at P (member_in (domain_at P d).members k))) (slice_index_or asks k 0)
  pub limit : (k : ℕ) → k < length (domain_at P d).members
      → IsIndex (scale_of (domain_at P d).kind (cpu_at P (member_in (domain_at P d).members k))) (slice_index_or limits k 0)

-- A state for each member, of the member's table.
pub record HoldsStates (P : Plan) (g : ℕ) (ss : List ℕ) : Type 0 where
  pub members : length ss ≡ length (group_at P g).members
  pub states : (k : ℕ) → k < length (group_at P g).members
      → slice_index_or ss k 0 ≤ length (rows_of (cpu_at P (member_in (group_at P g).members k)).idle)

abbrev pub Holds : Plan → Record → Part → Type 0
Holds P (container n) (votes vs) = HoldsVotes P n vs
Holds P (domain d) (levels asks limits) = HoldsLevels P d asks limits
Holds P (group g) (states ss) = HoldsStates P g ss
Holds P (container n) (levels asks limits) = ⊥
Holds P (container n) (states ss) = ⊥
Holds P (domain d) (votes vs) = ⊥
Holds P (domain d) (states ss) = ⊥
Holds P (group g) (votes vs) = ⊥
Holds P (group g) (levels asks limits) = ⊥
