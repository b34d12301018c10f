-- The deepest state that all children allow, by the two bounds that they set.
use Rattle.std.proofs.Common.{◌≡◌, ◌<◌, ◌≤◌, ◌==◌, ◌&&◌, ℕ, min, Bool, true, false, cond, List, [], ◌∷◌, map, length, refl, ap, sym, ◌∙◌, inl, inr, arith, nat_le}
use Rattle.std.specs.Prelude.{fold}
use Rattle.std.proofs.lemmas.List.{length-map}
use Rattle.std.proofs.lemmas.Bool.{cases_lt}
use Rattle.std.proofs.lemmas.Bool.Decides.{nat_tests}
use Rattle.acpi_values.specs.Idle.{rows_of}
use Rattle.pw_plan.specs.declared.domain.Child.{Child}
use Rattle.pw_plan.specs.declared.plan.Plan.{Plan}
use Rattle.pw_plan.specs.Places.{children_at, container_at, table_of}
use Rattle.pw_model.specs.declared.state.State.{State}
use Rattle.pw_model.specs.declared.state.Vote.{Vote}
use Rattle.pw_model.specs.States.{idling, running}
use Rattle.pw_model.specs.Containers.{all_allow, child_vote, child_votes, container_vote, enables_to, greatest, least_tolerance, may_idle, node_vote, vote_over}
use Rattle.pw_model.proofs.Greatest.{greatest-le}
use Rattle.pw_model.proofs.Votes.{container_vote-by_children}
use Rattle.pw_base.proofs.Facts.{empty}

-- # Two bounds

bound_both : (i a b latency x y : ℕ) (r : Bool)
    → (nat_le i a && (nat_le latency x && ((nat_le i b && nat_le latency y) && r))) ≡ (nat_le i (min a b) && (nat_le latency (min x y) && r))
bound_both i a b latency x y r = grind (arith, nat_tests)

-- all allow a state exactly where it is at most the least that they enable, and wakes within the least that they bear
pub all_allow-least : (P : Plan) (f : Child → Vote) (i latency most bears : ℕ) (cs : List Child)
    → (nat_le i most && (nat_le latency bears && all_allow P cs (map f cs) i latency))
    ≡ (nat_le i (fold min most (map (λ c. enables_to (table_of P c) (f c)) cs)) && nat_le latency (fold min bears (map (λ c. (f c).tolerance) cs)))
all_allow-least P f i latency most bears [] = grind (arith, nat_tests)
all_allow-least P f i latency most bears (c ∷ cs) =
    bound_both i most (enables_to (table_of P c) (f c)) latency bears (f c).tolerance (all_allow P cs (map f cs) i latency)
    ∙ all_allow-least P f i latency (min most (enables_to (table_of P c) (f c))) (min bears (f c).tolerance) cs

-- # A container's vote

-- without a child a container runs
pub container_vote-none : (P : Plan) (S : State) (n : ℕ) → length (children_at P n) ≡ 0 → container_vote P S n ≡ running
unfolding node_vote
container_vote-none P S n none = container_vote-by_children P S n ∙ ap (λ cs. node_vote P n (map (child_vote P S) cs)) (empty (children_at P n) none)

-- with children it has the deepest state that it may be in
pub container_vote-some : (P : Plan) (S : State) (n : ℕ) → 0 < length (children_at P n)
    → container_vote P S n ≡ vote_over (greatest (may_idle P n (child_votes P S n)) (length (rows_of (container_at P n).idle))) (child_votes P S n)
unfolding node_vote
container_vote-some P S n some = container_vote-by_children P S n ∙ filled (child_votes P S n) (rw length-map some)
  where
    filled : (vs : List Vote) → 0 < length vs → node_vote P n vs ≡ vote_over (greatest (may_idle P n vs) (length (rows_of (container_at P n).idle))) vs
    filled [] lt = absurd (omega arith)
    filled (v ∷ vs) lt = refl

pub vote_over-state : (state : ℕ) (vs : List Vote) → (vote_over state vs).state ≡ state
vote_over-state state vs = step (state == 0) refl
  where
    step : (b : Bool) → (state == 0) ≡ b → (cond b running (idling state (least_tolerance vs))).state ≡ state
    step true e = grind (arith, nat_tests)
    step false e = refl

-- who is in a state above 0 bears what its children bear
pub vote_over-idles : (state : ℕ) (vs : List Vote) → 0 < state → vote_over state vs ≡ idling state (least_tolerance vs)
vote_over-idles state vs lt = let e : (state == 0) ≡ false = grind (arith, nat_tests) in rw e refl

pub vote_over-runs : (state : ℕ) (vs : List Vote) → state ≡ 0 → vote_over state vs ≡ running
vote_over-runs state vs z = let e : (state == 0) ≡ true = grind (arith, nat_tests) in rw e refl

pub container_vote-state : (P : Plan) (S : State) (n : ℕ) → 0 < length (children_at P n)
    → (container_vote P S n).state ≡ greatest (may_idle P n (child_votes P S n)) (length (rows_of (container_at P n).idle))
container_vote-state P S n some =
    ap (λ (v : Vote). v.state) (container_vote-some P S n some)
    ∙ vote_over-state (greatest (may_idle P n (child_votes P S n)) (length (rows_of (container_at P n).idle))) (child_votes P S n)

-- who is in a state has a child
pub container_vote-has : (P : Plan) (S : State) (n : ℕ) → 0 < (container_vote P S n).state → 0 < length (children_at P n)
container_vote-has P S n lt = elim (cases_lt 0 (length (children_at P n))) [
  | inl some ↦ some
  | inr none ↦
      let e : (container_vote P S n).state ≡ 0 = ap (λ (v : Vote). v.state) (container_vote-none P S n (omega arith)) in
      absurd (omega (arith, e, lt))
]

-- who is in state 0 has the vote of who runs
pub container_vote-runs : (P : Plan) (S : State) (n : ℕ) → (container_vote P S n).state ≡ 0 → container_vote P S n ≡ running
container_vote-runs P S n z = elim (cases_lt 0 (length (children_at P n))) [
  | inl some ↦
      container_vote-some P S n some
      ∙ vote_over-runs (greatest (may_idle P n (child_votes P S n)) (length (rows_of (container_at P n).idle))) (child_votes P S n) (sym (container_vote-state P S n some) ∙ z)
  | inr none ↦ container_vote-none P S n (omega arith)
]

pub container_vote-le : (P : Plan) (S : State) (n : ℕ) → (container_vote P S n).state ≤ length (rows_of (container_at P n).idle)
container_vote-le P S n = elim (cases_lt 0 (container_vote P S n).state) [
  | inl lt ↦ rw (container_vote-state P S n (container_vote-has P S n lt)) (greatest-le (may_idle P n (child_votes P S n)) (length (rows_of (container_at P n).idle)))
  | inr ge ↦ omega arith
]
