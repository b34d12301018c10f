-- What records open with, and what their calls amount to.
use Rattle.pw_plan.proofs.Placing.{only_place}
use Rattle.pw_plan.proofs.Orders.{itself}
use Rattle.std.proofs.Common.{eq-eqb}
use Rattle.std.proofs.Common.{◌≡◌, ◌<◌, ◌≤◌, ◌-◌, ◌==◌, ◌||◌, ◌⊎◌, ℕ, suc, zero, nat_lt, ◌++◌, cond, Bool, true, false, List, [], ◌∷◌, map, length, get_or, refl, sym, ◌∙◌, ap, arith, inl, inr, eqb-true}
use Rattle.std.specs.List.{AllByRecursion}
use Rattle.std.proofs.lemmas.Bool.{cases_lt}
use Rattle.std.proofs.lemmas.Bool.Decides.{nat_tests}
use Rattle.std.proofs.lemmas.List.{get_or_past}
use Rattle.std.proofs.lemmas.List.Elements.{recursion_from_All}
use Rattle.acpi_values.specs.declared.idle.IdleKind.{IdleKind}
use Rattle.acpi_values.specs.declared.idle.IdleKind.TheVariants.{Lpi, Cst, Absent}
use Rattle.pw_plan.specs.declared.domain.Child.{Child}
use Rattle.pw_plan.specs.declared.domain.DomainKind.{DomainKind}
use Rattle.pw_model.specs.Operations.{own_entry, set_at, set_on}
use Rattle.pw_plan.specs.declared.domain.Child.TheVariants.{Cpu, Container}
use Rattle.pw_plan.specs.declared.plan.Plan.{Plan}
use Rattle.pw_plan.specs.Groups.{has_member, no_domain}
use Rattle.pw_plan.specs.Parts.{scale_of}
use Rattle.pw_plan.specs.Places.{children_at, cpu_at, domain_at, domain_of, group_at, group_of}
use Rattle.pw_model.specs.declared.state.Vote.{Vote}
use Rattle.pw_model.specs.States.{ask_of, limit_of, opening, opening_limit, running}
use Rattle.pw_model.specs.Containers.{child_vote, container_vote, seen_by_kind}
use Rattle.pw_model.specs.Laws.{Allows}
use Rattle.pw_model.proofs.Enabling.{container_vote-runs}
use Rattle.pw_model.proofs.Idleness.{state_allowed}
use Rattle.pw_model.proofs.Maps.{map_agree, map_same}
use Rattle.pw_model.proofs.Votes.{IsChild, are_children, none_past}
use Rattle.pw_model.specs.Calls.{CallsServe, group_ops, level_ops, OpensRight, with_state}
use Rattle.pw_model.specs.Effects.{c_state_by, drawn_ops, enter_c, level_effect, member_place, ops_after, standing_in, states_in, states_with}
use Rattle.pw_plan.specs.Orderly.{is_same}
use Rattle.pw_model.specs.Records.{Part, Record, container, domain, group, votes, levels, states, state_of_vote}
use Rattle.pw_model.proofs.Opening.{opening_ask, opening_own, opening_runs}
use Rattle.pw_model.proofs.Gathered.{group_member}
use Rattle.pw_model.proofs.Levels.{HasDomain, has_domain}
use Rattle.pw_model.proofs.Plans.{wired}
use Rattle.pw_plan.proofs.Found.{found, position-here, position-later}
use Rattle.pw_plan.proofs.TreeLemmas.{lt_true}

-- # Places

-- who stands at a member's place
pub place_member : (ms : List ℕ) (p : ℕ) → has_member ms p ≡ true → get_or ms (member_place ms p) 0 ≡ p
place_member [] p e = cc
place_member (m ∷ ms) p e = step (m == p) refl e (place_member ms p)
  where
    step : (b : Bool) → (m == p) ≡ b → (b || has_member ms p) ≡ true → (has_member ms p ≡ true → get_or ms (member_place ms p) 0 ≡ p) → get_or (m ∷ ms) (member_place (m ∷ ms) p) 0 ≡ p
    step true h e later = ap (λ k. get_or (m ∷ ms) k 0) (position-here (λ q. q == p) m ms h) ∙ eqb-true m p h
    step false h e later = ap (λ k. get_or (m ∷ ms) k 0) (position-later (λ q. q == p) m ms h) ∙ later e

-- # What stands at the start

all_running : (k : IdleKind) (v : Vote) → v ≡ running → seen_by_kind k v ≡ running
all_running Lpi v e = e
all_running Cst v e = refl
all_running Absent v e = refl

module _ (P : Plan) where
  seen_running : (p : ℕ) → child_vote P (opening P) (Cpu p) ≡ running
  seen_running p = all_running (cpu_at P p).idle.kind (get_or (opening P).votes p running) (opening_runs P p)

  -- who allows a state idles
  idle_child : (n s : ℕ) (cs : List Child) → 0 < length cs → AllByRecursion (Allows P (opening P) n s) cs → AllByRecursion (IsChild P n) cs
      → ((m : ℕ) → n < m → container_vote P (opening P) m ≡ running) → ⊥
  idle_child n s [] lt a h above = omega arith
  idle_child n s (Cpu p ∷ cs) lt a h above =
      let idles = a.0.idles in
      let e : (child_vote P (opening P) (Cpu p)).state ≡ 0 = ap (λ (v : Vote). v.state) (seen_running p) in
      omega (arith, idles, e)
  idle_child n s (Container m ∷ cs) lt a h above =
      let idles = a.0.idles in
      let e : (container_vote P (opening P) m).state ≡ 0 = ap (λ (v : Vote). v.state) (above m (P.sound.tree.falls m n h.0.exists h.0.parent)) in
      omega (arith, idles, e)

  runs_within : (f n : ℕ) → length P.containers - n ≤ f → container_vote P (opening P) n ≡ running
  runs_within zero n le = elim (cases_lt 0 (container_vote P (opening P) n).state) [
    | inl lt ↦
        let some = (state_allowed P (opening P) n lt).some_child in
        let none = ap length (none_past P n (omega arith)) in
        absurd (omega (arith, some, none))
    | inr z ↦ container_vote-runs P (opening P) n (omega arith)
  ]
  runs_within (suc f) n le = step (cases_lt 0 (container_vote P (opening P) n).state) (λ m lt. runs_within f m (omega arith))
    where
      step : (0 < (container_vote P (opening P) n).state) ⊎ ((container_vote P (opening P) n).state ≤ 0) → ((m : ℕ) → n < m → container_vote P (opening P) m ≡ running)
          → container_vote P (opening P) n ≡ running
      step (inl lt) above =
          let h = state_allowed P (opening P) n lt in
          absurd (idle_child n (container_vote P (opening P) n).state (children_at P n) h.some_child h.allowed (are_children P n) above)
      step (inr z) above = container_vote-runs P (opening P) n (omega arith)

  child_running : (c : Child) → child_vote P (opening P) c ≡ running
  child_running (Cpu p) = seen_running p
  child_running (Container n) = runs_within (length P.containers) n (omega arith)

  -- the members of a domain are processors of the plan
  members_exist : (d : ℕ) → AllByRecursion (λ q. q < length P.cpus) (domain_at P d).members
  unfolding no_domain
  members_exist d = elim (cases_lt d (length P.domains)) [
    | inl lt ↦ recursion_from_All (λ q. q < length P.cpus) (domain_at P d).members (P.sound.domains.members d no_domain lt)
    | inr le ↦ let none : domain_at P d ≡ no_domain = get_or_past P.domains d no_domain le in rw none tt
  ]

  -- Each record opens with its part.
  pub opens_right : OpensRight P
  opens_right (container n) = ap (λ vs. votes vs) (map_same (child_vote P (opening P)) (λ c. running) child_running (children_at P n))
  opens_right (domain d) =
      let kind = (domain_at P d).kind in
      let ms = (domain_at P d).members in
      let own = λ (p : ℕ). opening_limit (scale_of kind (cpu_at P p)) in
      ap (λ xs. levels xs (map (limit_of kind (opening P)) ms)) (map_agree (λ q. q < length P.cpus) (ask_of kind (opening P)) own (opening_ask P kind) ms (members_exist d))
      ∙ ap (λ xs. levels (map own ms) xs) (map_agree (λ q. q < length P.cpus) (limit_of kind (opening P)) own (opening_own P kind) ms (members_exist d))
  opens_right (group g) = ap (λ ss. states ss) (map_same (state_of_vote (opening P)) (λ p. 0) (λ p. ap (λ (v : Vote). v.state) (opening_runs P p)) (group_at P g).members)

-- # The calls make the effects

module _ (P : Plan) where
  level_ops_is : (kind : DomainKind) (p : ℕ) (x y : Part) → HasDomain P kind p
      → (level_effect P kind p (domain_of P kind p) x y).ops ≡ level_ops P (domain_of P kind p) (member_place (domain_at P (domain_of P kind p)).members p) x y
  level_ops_is kind p x y has =
      let D = domain_at P (domain_of P kind p) in
      let k = member_place D.members p in
      ap (λ (i : DomainKind). cond (standing_in D x k == standing_in D y k) [] (map (set_on P i (standing_in D y k)) (set_at D.coord D.members p))) (sym has.kind_is)
      ∙ ap (λ (q : ℕ). cond (standing_in D x k == standing_in D y k) [] (map (set_on P D.kind (standing_in D y k)) (set_at D.coord D.members q))) (sym (place_member D.members p has.member))

  group_ops_is : (F : Record → Part) (p : ℕ) (v : Vote) → group_of P p < length P.groups
      → ops_after Cst P F p v ≡ group_ops P (group_of P p) (member_place (group_at P (group_of P p)).members p) (F (group (group_of P p)))
      (with_state (member_place (group_at P (group_of P p)).members p) v.state (F (group (group_of P p))))
  group_ops_is F p v lt =
      let g = group_of P p in
      let ms = (group_at P g).members in
      let old = states_in (F (group g)) in
      let new = states_with ms p v.state old in
      let c = c_state_by P ms new p in
      ap (λ b. own_entry Cst (cond b c v.state) (enter_c P p (cond b c v.state)) ++ cond b (drawn_ops P ms old new p) []) (lt_true g (length P.groups) lt)
      ∙ ap (λ (q : ℕ). own_entry Cst (c_state_by P ms new q) (enter_c P q (c_state_by P ms new q)) ++ drawn_ops P ms old new q) (sym (place_member ms p (group_member P (wired P) p lt)))

  pub calls_serve : CallsServe P
  calls_serve = record {
    cpu_place = λ n p lt e. found (is_same (Cpu p)) (children_at P n) ((P.orderly).listed n p lt e);
    container_place = λ n m lt e. found (is_same (Container m)) (children_at P n) ((P.orderly).nested n m lt e);
    member_at = λ d p on. (found (λ q. q == p) (domain_at P d).members on, place_member (domain_at P d).members p on);
    grouped_at = λ g p on. (found (λ q. q == p) (group_at P g).members on, place_member (group_at P g).members p on);
    place_at = λ d k lt. only_place (λ q. q == get_or (domain_at P d).members k 0) (domain_at P d).members k 0 ((wired P).members d (get_or (domain_at P d).members k 0)) lt
        (eq-eqb (get_or (domain_at P d).members k 0) (get_or (domain_at P d).members k 0) refl);
    grouped_place = λ g k lt. only_place (λ q. q == get_or (group_at P g).members k 0) (group_at P g).members k 0 ((wired P).grouped g (get_or (group_at P g).members k 0)) lt
        (eq-eqb (get_or (group_at P g).members k 0) (get_or (group_at P g).members k 0) refl);
    child_at = λ n k lt. only_place (is_same (get_or (children_at P n) k (Cpu 0))) (children_at P n) k (Cpu 0) ((wired P).children n (get_or (children_at P n) k (Cpu 0))) lt
        (itself (get_or (children_at P n) k (Cpu 0)));
    level_ops_are = λ kind p x y lt some. level_ops_is kind p x y (has_domain P kind p lt some);
    group_ops_are = λ F p v lt. group_ops_is F p v lt;
  }
