-- A container's vote by its children's.
use Rattle.std.proofs.Common.{◌≡◌, ◌<◌, ◌≤◌, ℕ, true, List, [], ◌∷◌, map, length, get_or, refl, ap, sym, ◌∙◌, arith, set, ◌⊎◌, ◌≢◌, inl, inr, get_or-set_same, get_or-set_other, length-set}
use Rattle.std.proofs.lemmas.Bool.{cases_eq}
use Rattle.std.proofs.lemmas.List.{get_or-map, length-map}
use Rattle.acpi_values.specs.Idle.{rows_of}
use Rattle.pw_plan.specs.declared.domain.Child.{Child}
use Rattle.pw_plan.specs.declared.domain.Child.TheVariants.{Cpu}
use Rattle.pw_plan.specs.declared.plan.Plan.{Plan}
use Rattle.pw_plan.specs.Places.{children_at, container_at}
use Rattle.pw_model.specs.declared.state.Vote.{Vote}
use Rattle.pw_model.specs.States.{IsProper, any_latency, running}
use Rattle.pw_model.specs.Containers.{greatest, least_tolerance, may_idle, node_vote, vote_over, container_vote}
use Rattle.pw_model.specs.declared.state.State.{State}
use Rattle.pw_model.proofs.Votes.{container_vote-by_children}
use Rattle.pw_model.specs.Records.{container, part_of}
use Rattle.pw_model.specs.Effects.{votes_in}
use Rattle.pw_idle.specs.declared.node.NodeRec.{NodeRec}
use Rattle.pw_idle.specs.Nodes.{IsNodeOf, node_part}
use Rattle.pw_model.proofs.Enabling.{vote_over-idles, vote_over-runs, vote_over-state}
use Rattle.pw_model.proofs.Greatest.{greatest-here, greatest-le}
use Rattle.pw_model.specs.Holding.{HoldsVotes, table_at}

module _ (P : Plan) (n : ℕ) where
  pub state_none : (vs : List Vote) → length vs ≡ 0 → 0 ≡ (node_vote P n vs).state
  unfolding node_vote
  state_none [] e = refl
  state_none (v ∷ vs) e = absurd (omega arith)

  vote_some : (vs : List Vote) → 0 < length vs → node_vote P n vs ≡ vote_over (greatest (may_idle P n vs) (length (rows_of (container_at P n).idle))) vs
  unfolding node_vote
  vote_some [] lt = absurd (omega arith)
  vote_some (v ∷ vs) lt = refl

  state_some : (vs : List Vote) → 0 < length vs → (node_vote P n vs).state ≡ greatest (may_idle P n vs) (length (rows_of (container_at P n).idle))
  state_some vs lt = ap (λ (v : Vote). v.state) (vote_some vs lt) ∙ vote_over-state (greatest (may_idle P n vs) (length (rows_of (container_at P n).idle))) vs

  -- the deepest state that is tried and found, or none
  pub state_found : (vs : List Vote) (s : ℕ) → 0 < length vs → greatest (may_idle P n vs) s ≡ greatest (may_idle P n vs) (length (rows_of (container_at P n).idle))
      → 0 < s → may_idle P n vs s ≡ true → s ≡ (node_vote P n vs).state
  state_found vs s some rest lt e = sym (state_some vs some ∙ sym rest ∙ greatest-here (may_idle P n vs) s lt e)

  pub state_tried : (vs : List Vote) (s : ℕ) → 0 < length vs → greatest (may_idle P n vs) s ≡ greatest (may_idle P n vs) (length (rows_of (container_at P n).idle))
      → s ≤ 0 → s ≡ (node_vote P n vs).state
  state_tried vs s some rest le =
      let z : s ≡ 0 = omega arith in
      z ∙ sym (state_some vs some ∙ sym rest ∙ ap (greatest (may_idle P n vs)) z)

  -- who runs bears any latency, who idles what its children bear
  pub bears_any : (vs : List Vote) → (node_vote P n vs).state ≡ 0 → 4294967295 ≡ (node_vote P n vs).tolerance
  unfolding any_latency node_vote
  bears_any [] e = refl
  bears_any (v ∷ vs) e =
      let g = greatest (may_idle P n (v ∷ vs)) (length (rows_of (container_at P n).idle)) in
      sym (ap (λ (w : Vote). w.tolerance) (vote_over-runs g (v ∷ vs) (sym (vote_over-state g (v ∷ vs)) ∙ e)))

  pub bears_least : (vs : List Vote) → 0 < (node_vote P n vs).state → least_tolerance vs ≡ (node_vote P n vs).tolerance
  unfolding node_vote
  bears_least [] lt = absurd (omega arith)
  bears_least (v ∷ vs) lt =
      let g = greatest (may_idle P n (v ∷ vs)) (length (rows_of (container_at P n).idle)) in
      let e = vote_over-state g (v ∷ vs) in
      sym (ap (λ (w : Vote). w.tolerance) (vote_over-idles g (v ∷ vs) (omega (arith, e, lt))))

  pub opening_holds : HoldsVotes P n (map (λ (c : Child). running) (children_at P n))
  opening_holds =
      let at : (k : ℕ) → k < length (children_at P n) → get_or (map (λ (c : Child). running) (children_at P n)) k running ≡ running =
      λ k lt. get_or-map (λ (c : Child). running) (children_at P n) k (Cpu 0) running lt in
      record {
        children = length-map (children_at P n) (λ (c : Child). running);
        states = λ k lt. rw (at k lt) (omega arith);
        proper = λ k lt. rw (at k lt) (λ e. refl);
      }

-- # A vote set

module _ (P : Plan) (n k : ℕ) (v : Vote) (vs : List Vote) (h : HoldsVotes P n vs) (lt : k < length (children_at P n)) (fits : v.state ≤ table_at P n k) (proper : IsProper v) where
  pub vote_holds : HoldsVotes P n (set vs k v)
  vote_holds = record {
    children = length-set vs k v ∙ h.children;
    states = λ j below. states_at j below (cases_eq j k);
    proper = λ j below. proper_at j below (cases_eq j k);
  }
    where
      has : length vs ≡ length (children_at P n)
      has = h.children

      states_at : (j : ℕ) → j < length (children_at P n) → (j ≡ k) ⊎ (j ≢ k) → (get_or (set vs k v) j running).state ≤ table_at P n j
      states_at j below (inl e) = rw (e, get_or-set_same vs k v running (omega arith)) fits
      states_at j below (inr ne) = rw (get_or-set_other vs k j v running ne) (h.states j below)

      proper_at : (j : ℕ) → j < length (children_at P n) → (j ≡ k) ⊎ (j ≢ k) → IsProper (get_or (set vs k v) j running)
      proper_at j below (inl e) = rw (e, get_or-set_same vs k v running (omega arith)) proper
      proper_at j below (inr ne) = rw (get_or-set_other vs k j v running ne) (h.proper j below)

-- # What a container votes

module _ (P : Plan) (n : ℕ) where
  pub vote_fits : (vs : List Vote) → (node_vote P n vs).state ≤ length (rows_of (container_at P n).idle)
  unfolding node_vote
  vote_fits [] = omega arith
  vote_fits (v ∷ vs) =
      let g = greatest (may_idle P n (v ∷ vs)) (length (rows_of (container_at P n).idle)) in
      rw (vote_over-state g (v ∷ vs)) (greatest-le (may_idle P n (v ∷ vs)) (length (rows_of (container_at P n).idle)))

  pub vote_proper : (vs : List Vote) → IsProper (node_vote P n vs)
  unfolding any_latency
  vote_proper vs e = sym (bears_any P n vs e)

pub in_state : (P : Plan) (S : State) (r : NodeRec) → IsNodeOf P r → node_part r ≡ part_of P S (container r.node) → r.state ≡ (container_vote P S r.node).state
in_state P S r is e =
    is.state ∙ ap (λ x. (node_vote P r.node (votes_in x)).state) e ∙ sym (ap (λ (v : Vote). v.state) (container_vote-by_children P S r.node))
