-- What a vote of a processor does to the votes of containers' children.
use Rattle.std.proofs.Common.{◌≡◌, ◌≢◌, ◌<◌, ◌≤◌, ◌-◌, ◌==◌, ◌&&◌, ℕ, suc, zero, Bool, true, false, cond, List, [], ◌∷◌, map, length, Some, refl, sym, ◌∙◌, ap, arith, ◌⊎◌, inl, inr, eqb, eqb-true}
use Rattle.std.specs.List.{AllByRecursion}
use Rattle.std.proofs.lemmas.List.{get_or-set_other}
use Rattle.std.proofs.lemmas.Bool.{eqb-false}
use Rattle.std.proofs.lemmas.Bool.Decides.{eqb_tells}
use Rattle.pw_plan.specs.declared.domain.Child.{Child}
use Rattle.pw_plan.specs.declared.domain.Child.TheVariants.{Cpu, Container}
use Rattle.pw_plan.specs.declared.plan.Plan.{Plan}
use Rattle.pw_plan.specs.Places.{children_at, cpu_at, parent_of}
use Rattle.pw_plan.proofs.Lists.{and_first, and_second}
use Rattle.pw_model.specs.declared.state.Change.TheVariants as changes
use Rattle.pw_model.specs.declared.state.State.{State}
use Rattle.pw_model.specs.declared.state.Vote.{Vote}
use Rattle.pw_model.specs.States.{with_change, running}
use Rattle.pw_model.specs.Containers.{ancestors, child_vote, child_votes, container_vote, node_vote, seen_by_kind}
use Rattle.pw_model.specs.Answers.{states_along}
use Rattle.pw_model.proofs.Enabling.{container_vote-runs}
use Rattle.pw_model.proofs.Maps.{map_agree}
use Rattle.pw_model.proofs.Votes.{IsChild, are_children, container_vote-by_children, none_past}
use Rattle.pw_plan.specs.Orderly.{is_same}
use Rattle.pw_model.specs.inner.Wired.{IsWired}
use Rattle.pw_model.specs.Records.{part_of, runs_in_both, through}
use Rattle.pw_model.specs.Effects.{Rung, both_run, climb, states_up, votes_with}
use Rattle.pw_model.proofs.Lines.{Among, IsLine, each_among, among_cases, ancestors_line, heads, not_above, one_child, parent_in, starts}
use Rattle.pw_model.proofs.Sets.{map_set}
use Rattle.pw_base.proofs.Facts.{weaker}
use Rattle.pw_plan.proofs.Orders.{same_child}

module _ (P : Plan) (wired : IsWired P) (p : ℕ) (exists : p < length P.cpus) (S : State) (v : Vote) where
  -- the state with the vote
  abbrev T : State
  T = with_change S (changes.Vote p v)

  -- the processor, or a container around it
  abbrev pub OnPath : Child → Type 0
  OnPath (Cpu q) = q ≡ p
  OnPath (Container m) = Among m (ancestors P p)

  other_cpu : (q : ℕ) → q ≢ p → child_vote P T (Cpu q) ≡ child_vote P S (Cpu q)
  other_cpu q ne = ap (seen_by_kind (cpu_at P q).idle.kind) (get_or-set_other S.votes p q v running ne)

  vote_by : (n : ℕ) → child_votes P T n ≡ child_votes P S n → container_vote P T n ≡ container_vote P S n
  vote_by n e = container_vote-by_children P T n ∙ ap (node_vote P n) e ∙ sym (container_vote-by_children P S n)

  unmoved_within : (f m : ℕ) → length P.containers - m ≤ f → (Among m (ancestors P p) → ⊥) → child_votes P T m ≡ child_votes P S m
  unmoved_within zero m le off =
      let none = none_past P m (omega arith) in
      ap (map (child_vote P T)) none ∙ sym (ap (map (child_vote P S)) none)
  unmoved_within (suc f) m le off =
      map_agree (IsChild P m) (child_vote P T) (child_vote P S) (each (λ k lt out. vote_by k (unmoved_within f k (omega arith) out))) (children_at P m) (are_children P m)
    where
      by : (q : ℕ) → (((eqb q p ≡ true) × (q ≡ p)) ⊎ ((eqb q p ≡ false) × (q ≢ p))) → IsChild P m (Cpu q) → child_vote P T (Cpu q) ≡ child_vote P S (Cpu q)
      by q (inl e) h = absurd (off (heads P (cpu_at P p).parent (ancestors P p) (ancestors_line P p exists) m (ap (λ k. (cpu_at P k).parent) (sym e.1) ∙ h.parent)))
      by q (inr e) h = other_cpu q e.1

      each : ((k : ℕ) → m < k → (Among k (ancestors P p) → ⊥) → container_vote P T k ≡ container_vote P S k) → (c : Child) → IsChild P m c → child_vote P T c ≡ child_vote P S c
      each above (Cpu q) h = by q (eqb_tells q p) h
      each above (Container k) h = above k (P.sound.tree.falls k m h.exists h.parent) (λ a. off (parent_in P (cpu_at P p).parent (ancestors P p) (ancestors_line P p exists) k m a h.parent))

  -- who isn't around the processor has the same children's votes
  pub unmoved : (m : ℕ) → (Among m (ancestors P p) → ⊥) → child_votes P T m ≡ child_votes P S m
  unmoved m off = unmoved_within (length P.containers) m (omega arith) off

  -- of the children of a container one alone may vote anew
  other : (n : ℕ) (c d : Child) → OnPath c → parent_of P c ≡ Some n → IsChild P n d → is_same c d ≡ false → child_vote P T d ≡ child_vote P S d
  other n (Cpu q) (Cpu r) on up h e = other_cpu r (λ s. eqb-false r q e (s ∙ sym on))
  other n (Cpu q) (Container m) on up h e = vote_by m (unmoved m (λ a. not_above P p exists n m (ap (λ k. (cpu_at P k).parent) (sym on) ∙ up) a h.parent))
  other n (Container k) (Cpu r) on up h e = other_cpu r (λ s. not_above P p exists n k (ap (λ i. (cpu_at P i).parent) (sym s) ∙ h.parent) on up)
  other n (Container k) (Container m) on up h e =
      vote_by m (unmoved m (λ a. eqb-false m k e (one_child P n (cpu_at P p).parent (ancestors P p) (ancestors_line P p exists) (starts P p exists) m k a on h.parent up)))

  -- a container around the processor: one of its children's votes is set
  pub part_set : (n : ℕ) (c : Child) → OnPath c → parent_of P c ≡ Some n → child_votes P T n ≡ votes_with P n c (child_vote P T c) (child_votes P S n)
  part_set n c on up =
      map_set (is_same c) (child_vote P S) (child_vote P T) (child_vote P T c) (children_at P n) (λ d e. ap (child_vote P T) (sym (same_child c d e)))
      (weaker (IsChild P n) (λ d. is_same c d ≡ false → child_vote P T d ≡ child_vote P S d) (λ d h. other n c d on up h) (children_at P n) (are_children P n))
      (wired.children n c)

  -- the rung of container n
  abbrev pub rung : ℕ → Rung
  rung n = record { node = n; votes = child_votes P T n }

  -- # The climb

  abbrev step_on : ℕ → List ℕ → Vote → List Vote → Vote → List Rung
  step_on n ns old new w = record { node = n; votes = new } ∷ cond (both_run old w) [] (climb P (part_of P S) (Container n) w ns)

  -- The containers of the climb are those up to the first that runs before and after, with their children's votes after.
  pub climb_is : (c : Child) (ns : List ℕ) → OnPath c → IsLine P (parent_of P c) ns → AllByRecursion (λ n. Among n (ancestors P p)) ns
      → climb P (part_of P S) c (child_vote P T c) ns ≡ map rung (through (runs_in_both P S T) ns)
  climb_is c [] on line all = refl
  climb_is c (n ∷ ns) on line all =
      ap (λ vs. step_on n ns (node_vote P n (child_votes P S n)) vs (node_vote P n vs)) (sym (part_set n c on line.0))
      ∙ ap (λ w. step_on n ns w (child_votes P T n) (node_vote P n (child_votes P T n))) (sym (container_vote-by_children P S n))
      ∙ ap (λ w. step_on n ns (container_vote P S n) (child_votes P T n) w) (sym (container_vote-by_children P T n))
      ∙ ap (λ rs. rung n ∷ rs) (step (runs_in_both P S T n) (climb_is (Container n) ns all.0 line.1 all.1))
    where
      step : (b : Bool) → climb P (part_of P S) (Container n) (container_vote P T n) ns ≡ map rung (through (runs_in_both P S T) ns)
          → cond b [] (climb P (part_of P S) (Container n) (container_vote P T n) ns) ≡ map rung (cond b [] (through (runs_in_both P S T) ns))
      step true h = refl
      step false h = h

  -- the states that an answer names stand in the climb
  pub along_is : (ns : List ℕ) → states_up P (map rung (through (runs_in_both P S T) ns)) ≡ states_along P T ns
  along_is [] = refl
  along_is (n ∷ ns) =
      ap (λ (w : Vote). cond (w.state == 0) [] (w.state ∷ states_up P (map rung (cond (runs_in_both P S T n) [] (through (runs_in_both P S T) ns))))) (sym (container_vote-by_children P T n))
      ∙ step ((container_vote P S n).state == 0) ((container_vote P T n).state == 0) (along_is ns)
    where
      step : (a b : Bool) → states_up P (map rung (through (runs_in_both P S T) ns)) ≡ states_along P T ns
          → cond b [] ((container_vote P T n).state ∷ states_up P (map rung (cond (a && b) [] (through (runs_in_both P S T) ns)))) ≡ cond b [] ((container_vote P T n).state ∷ states_along P T ns)
      step a true h = refl
      step true false h = ap (λ ss. (container_vote P T n).state ∷ ss) h
      step false false h = ap (λ ss. (container_vote P T n).state ∷ ss) h

  -- # Off the climb

  above_here : (m : ℕ) (c : Child) → OnPath c → parent_of P c ≡ Some m → child_vote P T c ≡ child_vote P S c → child_votes P T m ≡ child_votes P S m
  above_here m c on up same = map_agree (IsChild P m) (child_vote P T) (child_vote P S) (λ d h. by d h (is_same c d) refl) (children_at P m) (are_children P m)
    where
      by : (d : Child) → IsChild P m d → (b : Bool) → is_same c d ≡ b → child_vote P T d ≡ child_vote P S d
      by d h true e = ap (child_vote P T) (sym (same_child c d e)) ∙ same ∙ ap (child_vote P S) (same_child c d e)
      by d h false e = other m c d on up h e

  -- above a child that votes as before nothing changes
  pub above : (c : Child) (ns : List ℕ) → OnPath c → IsLine P (parent_of P c) ns → AllByRecursion (λ n. Among n (ancestors P p)) ns → child_vote P T c ≡ child_vote P S c
      → (n : ℕ) → Among n ns → child_votes P T n ≡ child_votes P S n
  above c [] on line all same n h = absurd h
  above c (m ∷ ns) on line all same n (inl e) = rw e (above_here m c on line.0 same)
  above c (m ∷ ns) on line all same n (inr h) = above (Container m) ns all.0 line.1 all.1 (vote_by m (above_here m c on line.0 same)) n h

  both_running : (m : ℕ) → runs_in_both P S T m ≡ true → container_vote P T m ≡ container_vote P S m
  both_running m e =
      let first : ((container_vote P S m).state == 0) ≡ true = and_first ((container_vote P S m).state == 0) ((container_vote P T m).state == 0) e in
      let second : ((container_vote P T m).state == 0) ≡ true = and_second ((container_vote P S m).state == 0) ((container_vote P T m).state == 0) e in
      container_vote-runs P T m (eqb-true (container_vote P T m).state 0 second) ∙ sym (container_vote-runs P S m (eqb-true (container_vote P S m).state 0 first))

  off_climb : (c : Child) (ns : List ℕ) → OnPath c → IsLine P (parent_of P c) ns → AllByRecursion (λ n. Among n (ancestors P p)) ns
      → (n : ℕ) → Among n ns → (Among n (through (runs_in_both P S T) ns) → ⊥) → child_votes P T n ≡ child_votes P S n
  off_climb c [] on line all n h out = absurd h
  off_climb c (m ∷ ns) on line all n (inl e) out = absurd (out (inl e))
  off_climb c (m ∷ ns) on line all n (inr h) out = step (runs_in_both P S T m) refl (λ a. out (inr a)) (off_climb (Container m) ns all.0 line.1 all.1 n h)
    where
      step : (b : Bool) → runs_in_both P S T m ≡ b → (Among n (cond b [] (through (runs_in_both P S T) ns)) → ⊥) → ((Among n (through (runs_in_both P S T) ns) → ⊥)
          → child_votes P T n ≡ child_votes P S n)
          → child_votes P T n ≡ child_votes P S n
      step true e out later = above (Container m) ns all.0 line.1 all.1 (both_running m e) n h
      step false e out later = later out

  -- # All containers

  around : AllByRecursion (λ n. Among n (ancestors P p)) (ancestors P p)
  around = each_among (λ n. Among n (ancestors P p)) (ancestors P p) (λ n h. h)

  -- off the climb nothing changes
  pub off : (n : ℕ) → (Among n (through (runs_in_both P S T) (ancestors P p)) → ⊥) → child_votes P T n ≡ child_votes P S n
  off n out = elim (among_cases n (ancestors P p)) [
    | inl h ↦ off_climb (Cpu p) (ancestors P p) refl (ancestors_line P p exists) around n h out
    | inr far ↦ unmoved n far
  ]

  -- a vote that its container sees as before changes nothing
  pub unseen : child_vote P T (Cpu p) ≡ child_vote P S (Cpu p) → (n : ℕ) → child_votes P T n ≡ child_votes P S n
  unseen same n = elim (among_cases n (ancestors P p)) [
    | inl h ↦ above (Cpu p) (ancestors P p) refl (ancestors_line P p exists) around same n h
    | inr far ↦ unmoved n far
  ]

  pub climb_of : child_vote P T (Cpu p) ≡ v → climb P (part_of P S) (Cpu p) v (ancestors P p) ≡ map rung (through (runs_in_both P S T) (ancestors P p))
  climb_of seen = ap (λ w. climb P (part_of P S) (Cpu p) w (ancestors P p)) (sym seen) ∙ climb_is (Cpu p) (ancestors P p) refl (ancestors_line P p exists) around
