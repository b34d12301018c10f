-- What the state and the tolerance of a container amount to.
use Rattle.std.proofs.Common.{◌≡◌, ◌<◌, ◌≤◌, ◌==◌, ℕ, min, Bool, true, false, cond, List, [], ◌∷◌, map, length, refl, ap, ◌∙◌, inl, inr, arith, nat_le}
use Rattle.std.specs.Prelude.{fold}
use Rattle.std.specs.List.{AllByRecursion}
use Rattle.std.proofs.lemmas.Bool.{cases_lt}
use Rattle.std.proofs.lemmas.Bool.Decides.{nat_tests}
use Rattle.acpi_values.specs.Idle.{rows_of}
use Rattle.acpi_values.specs.declared.idle.IdleTable.{IdleTable}
use Rattle.pw_plan.specs.declared.domain.Child.{Child}
use Rattle.pw_plan.specs.declared.plan.Plan.{Plan}
use Rattle.pw_plan.specs.Places.{children_at, container_at, row_at, table_of}
use Rattle.pw_model.specs.declared.state.State.{State}
use Rattle.pw_model.specs.declared.state.Vote.{Vote}
use Rattle.pw_model.specs.States.{any_latency}
use Rattle.pw_model.specs.Containers.{all_allow, allows, child_vote, child_votes, container_vote, enables_to, greatest, may_idle}
use Rattle.pw_model.specs.Laws.{Allows, MayIdle}
use Rattle.pw_model.proofs.Enabling.{container_vote-has, container_vote-le, container_vote-runs, container_vote-some, container_vote-state, vote_over-idles}
use Rattle.pw_model.proofs.Greatest.{greatest-most, greatest-passes}
use Rattle.pw_plan.proofs.Lists.{and_both, and_first, and_second}
use Rattle.pw_model.proofs.Maps.{fold_min-each, fold_min-least}
use Rattle.pw_base.proofs.Facts.{map_map}

-- # A child allows a state by the test exactly where it does by what is said of it

le_true : (a b : ℕ) → a ≤ b → nat_le a b ≡ true
le_true a b le = grind (arith, nat_tests)

le_from : (a b : ℕ) → nat_le a b ≡ true → a ≤ b
le_from a b e = grind (arith, nat_tests)

record Enables (t : IdleTable) (v : Vote) (i : ℕ) : Type 0 where
  idles : 0 < v.state
  reaches : i ≤ (row_at t v.state).parent

enables_from : (t : IdleTable) (v : Vote) (i : ℕ) → 0 < i → i ≤ enables_to t v → Enables t v i
enables_from t v i lt le = step (v.state == 0) refl le
  where
    step : (b : Bool) → (v.state == 0) ≡ b → i ≤ cond b 0 (row_at t v.state).parent → Enables t v i
    step true e le = absurd (omega arith)
    step false e le = record { idles = grind (arith, nat_tests); reaches = le }

enables_by : (t : IdleTable) (v : Vote) (i : ℕ) → Enables t v i → i ≤ enables_to t v
enables_by t v i h =
    let idles = h.idles in
    let e : (v.state == 0) ≡ false = grind (arith, nat_tests, idles) in
    rw e h.reaches

module _ (P : Plan) (S : State) (n i : ℕ) where
  allows_from : 0 < i → (c : Child) → allows (table_of P c) (child_vote P S c) i (row_at (container_at P n).idle i).latency ≡ true → Allows P S n i c
  allows_from lt c e =
      let h = enables_from (table_of P c) (child_vote P S c) i lt (le_from i (enables_to (table_of P c) (child_vote P S c))
      (and_first (nat_le i (enables_to (table_of P c) (child_vote P S c))) (nat_le (row_at (container_at P n).idle i).latency (child_vote P S c).tolerance) e)) in
      record {
        idles = h.idles;
        enables = h.reaches;
        bears = le_from (row_at (container_at P n).idle i).latency (child_vote P S c).tolerance
            (and_second (nat_le i (enables_to (table_of P c) (child_vote P S c))) (nat_le (row_at (container_at P n).idle i).latency (child_vote P S c).tolerance) e);
      }

  allows_by : (c : Child) → Allows P S n i c → allows (table_of P c) (child_vote P S c) i (row_at (container_at P n).idle i).latency ≡ true
  allows_by c h = and_both (nat_le i (enables_to (table_of P c) (child_vote P S c))) (nat_le (row_at (container_at P n).idle i).latency (child_vote P S c).tolerance)
      (le_true i (enables_to (table_of P c) (child_vote P S c)) (enables_by (table_of P c) (child_vote P S c) i (record { idles = h.idles; reaches = h.enables })))
      (le_true (row_at (container_at P n).idle i).latency (child_vote P S c).tolerance h.bears)

  all_from : 0 < i → (cs : List Child) → all_allow P cs (map (child_vote P S) cs) i (row_at (container_at P n).idle i).latency ≡ true → AllByRecursion (Allows P S n i) cs
  all_from lt [] e = tt
  all_from lt (c ∷ cs) e =
      let here = allows (table_of P c) (child_vote P S c) i (row_at (container_at P n).idle i).latency in
      let later = all_allow P cs (map (child_vote P S) cs) i (row_at (container_at P n).idle i).latency in
      (allows_from lt c (and_first here later e), all_from lt cs (and_second here later e))

  all_by : (cs : List Child) → AllByRecursion (Allows P S n i) cs → all_allow P cs (map (child_vote P S) cs) i (row_at (container_at P n).idle i).latency ≡ true
  all_by [] a = refl
  all_by (c ∷ cs) a = and_both (allows (table_of P c) (child_vote P S c) i (row_at (container_at P n).idle i).latency)
      (all_allow P cs (map (child_vote P S) cs) i (row_at (container_at P n).idle i).latency) (allows_by c a.0) (all_by cs a.1)

  -- # A container may be in a state by the test exactly where it may

  pub may_from : 0 < i → i ≤ length (rows_of (container_at P n).idle) → 0 < length (children_at P n) → may_idle P n (child_votes P S n) i ≡ true → MayIdle P S n i
  may_from lt le some e =
      let row = (row_at (container_at P n).idle i).enabled in
      let all = all_allow P (children_at P n) (child_votes P S n) i (row_at (container_at P n).idle i).latency in
      record {
        some_child = some;
        from = omega arith;
        within = le;
        enabled = and_first row all e;
        allowed = all_from lt (children_at P n) (and_second row all e);
      }

  pub may_by : MayIdle P S n i → may_idle P n (child_votes P S n) i ≡ true
  may_by h = and_both (row_at (container_at P n).idle i).enabled (all_allow P (children_at P n) (child_votes P S n) i (row_at (container_at P n).idle i).latency)
      h.enabled (all_by (children_at P n) h.allowed)

-- # The law

module _ (P : Plan) (S : State) (n : ℕ) where
  pub state_allowed : 0 < (container_vote P S n).state → MayIdle P S n (container_vote P S n).state
  state_allowed lt =
      let some = container_vote-has P S n lt in
      let is = container_vote-state P S n some in
      may_from P S n (container_vote P S n).state lt (container_vote-le P S n) some
      (rw is (greatest-passes (may_idle P n (child_votes P S n)) (length (rows_of (container_at P n).idle)) (rw is at lt)))

  pub state_greatest : (i : ℕ) → MayIdle P S n i → i ≤ (container_vote P S n).state
  state_greatest i h = rw (container_vote-state P S n h.some_child)
      (greatest-most (may_idle P n (child_votes P S n)) (length (rows_of (container_at P n).idle)) i h.within (may_by P S n i h))

  -- what it bears while it idles
  tolerance_is : 0 < (container_vote P S n).state → (container_vote P S n).tolerance ≡ fold min any_latency (map (λ c. (child_vote P S c).tolerance) (children_at P n))
  tolerance_is lt =
      let some = container_vote-has P S n lt in
      let is = container_vote-state P S n some in
      let g = greatest (may_idle P n (child_votes P S n)) (length (rows_of (container_at P n).idle)) in
      ap (λ (v : Vote). v.tolerance) (container_vote-some P S n some ∙ vote_over-idles g (child_votes P S n) (rw is at lt))
      ∙ ap (fold min any_latency) (map_map (child_vote P S) (λ (v : Vote). v.tolerance) (children_at P n))

  pub tolerance_borne : 0 < (container_vote P S n).state → AllByRecursion (λ c. (container_vote P S n).tolerance ≤ (child_vote P S c).tolerance) (children_at P n)
  tolerance_borne lt = rw (tolerance_is lt) (fold_min-each (λ c. (child_vote P S c).tolerance) any_latency (children_at P n))

  pub tolerance_runs : (container_vote P S n).state ≡ 0 → (container_vote P S n).tolerance ≡ any_latency
  tolerance_runs z = ap (λ (v : Vote). v.tolerance) (container_vote-runs P S n z)

  pub tolerance_least : (t : ℕ) → t ≤ any_latency → AllByRecursion (λ c. t ≤ (child_vote P S c).tolerance) (children_at P n) → t ≤ (container_vote P S n).tolerance
  tolerance_least t le a = elim (cases_lt 0 (container_vote P S n).state) [
    | inl lt ↦ rw (tolerance_is lt) (fold_min-least (λ c. (child_vote P S c).tolerance) t any_latency (children_at P n) le a)
    | inr ge ↦ rw (tolerance_runs (omega arith)) le
  ]
