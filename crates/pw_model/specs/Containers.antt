-- The states of containers, which follow from the votes of the processors below them (ACPI 6.5, 8.4.3.2).
use Rattle.std.specs.Prelude.{◌==◌, ◌&&◌, ℕ, suc, zero, min, Bool, List, [], ◌∷◌, map, fold, length, slice_index_or, if◌then◌else◌, nat_le, zip}
use Rattle.std.specs.List.{list_all}
use Rattle.acpi_values.specs.Idle.{rows_of}
use Rattle.acpi_values.specs.declared.idle.IdleKind.{IdleKind}
use Rattle.acpi_values.specs.declared.idle.IdleKind.TheVariants.{Lpi, Cst, Absent}
use Rattle.acpi_values.specs.declared.idle.IdleTable.{IdleTable}
use Rattle.pw_plan.specs.declared.domain.Child.{Child}
use Rattle.pw_plan.specs.declared.domain.Child.TheVariants.{Cpu, Container}
use Rattle.pw_plan.specs.declared.plan.Plan.{Plan}
use Rattle.pw_plan.specs.Places.{container_at, cpu_at, children_at, row_at, table_of}
use Rattle.pw_plan.specs.Tree.{containers_of}
use Rattle.pw_model.specs.declared.state.State.{State}
use Rattle.pw_model.specs.declared.state.Vote.{Vote}
use Rattle.pw_model.specs.States.{any_latency, running, idling}

-- the greatest index from 1 to n that passes the test, 0 where none does
abbrev pub greatest : (ℕ → Bool) → ℕ → ℕ
greatest test zero = 0
greatest test (suc n) = if test (suc n) then suc n else greatest test n

-- the deepest state of its container that a child with this table and vote enables: none while it runs
abbrev pub enables_to : IdleTable → Vote → ℕ
enables_to t v = if v.state == 0 then 0 else (row_at t v.state).parent

-- whether such a child allows its container state i, which has this wake latency
abbrev pub allows : IdleTable → Vote → ℕ → ℕ → Bool
allows t v i latency = nat_le i (enables_to t v) && nat_le latency v.tolerance

-- whether each of these children, with the votes beside them, does
abbrev pub all_allow : Plan → List Child → List Vote → ℕ → ℕ → Bool
all_allow P cs vs i latency = list_all (λ (c : Child × Vote). allows (table_of P c.0) c.1 i latency) (zip cs vs)

-- whether container n may be in state i: the state is enabled, and each child, with the vote beside it, allows it
abbrev pub may_idle : Plan → ℕ → List Vote → ℕ → Bool
may_idle P n vs i =
    let row = row_at (container_at P n).idle i in
    row.enabled && all_allow P (children_at P n) vs i row.latency

abbrev pub least_tolerance : List Vote → ℕ
least_tolerance vs = fold min any_latency (map (λ (v : Vote). v.tolerance) vs)

-- the vote of who is in this state with children that vote so: it bears what each of them bears, unless it runs
abbrev pub vote_over : ℕ → List Vote → Vote
vote_over state vs = if state == 0 then running else idling state (least_tolerance vs)

-- The vote of container n whose children vote so: the deepest state that it may be in. Without a child it runs.
unfoldable pub node_vote : Plan → ℕ → List Vote → Vote
node_vote P n [] = running
node_vote P n (v ∷ vs) = vote_over (greatest (may_idle P n (v ∷ vs)) (length (rows_of (container_at P n).idle))) (v ∷ vs)

-- a processor's vote as its container sees it: one without `_LPI` counts as running
abbrev pub seen_by_kind : IdleKind → Vote → Vote
seen_by_kind Lpi v = v
seen_by_kind Cst v = running
seen_by_kind Absent v = running

-- a child's vote, given those of processors and of containers
abbrev pub vote_among : Plan → List Vote → (ℕ → Vote) → Child → Vote
vote_among P votes containers (Cpu p) = seen_by_kind (cpu_at P p).idle.kind (slice_index_or votes p running)
vote_among P votes containers (Container n) = containers n

-- the vote of container n, by recursion on the tree. The first number bounds its height
unfoldable pub vote_within : ℕ → Plan → List Vote → ℕ → Vote
vote_within zero P votes n = node_vote P n []
vote_within (suc height) P votes n = node_vote P n (map (vote_among P votes (vote_within height P votes)) (children_at P n))

-- The vote of container n: its state and its tolerance.
unfoldable pub container_vote : Plan → State → ℕ → Vote
container_vote P S n = vote_within (length P.containers) P S.votes n

abbrev pub child_vote : Plan → State → Child → Vote
child_vote P S c = vote_among P S.votes (container_vote P S) c

-- the votes of a container's children
abbrev pub child_votes : Plan → State → ℕ → List Vote
child_votes P S n = map (child_vote P S) (children_at P n)

-- the containers around processor p, the innermost first
abbrev pub ancestors : Plan → ℕ → List ℕ
ancestors P p = containers_of P.containers P.cpus p
