-- C states by the votes of a group's members.
use Rattle.std.proofs.Common.{◌≡◌, ◌<◌, ◌≤◌, ◌==◌, ◌||◌, ◌&&◌, not, ℕ, Bool, true, false, cond, List, [], ◌∷◌, map, filter, length, refl, sym, ◌∙◌, ap, arith, inl, inr, nat_le, nat_lt}
use Rattle.std.specs.List.{list_all, list_any, AllByRecursion}
use Rattle.std.proofs.lemmas.Bool.{cases_lt}
use Rattle.acpi_values.specs.declared.idle.IdleKind.TheVariants.{Cst}
use Rattle.acpi_values.specs.declared.operation.Op.TheVariants as op
use Rattle.std.proofs.lemmas.List.{get_or_past}
use Rattle.pw_model.specs.Composites.{composite_of}
use Rattle.pw_plan.specs.declared.domain.Domain.{Domain}
use Rattle.pw_plan.specs.declared.domain.DomainKind.{DomainKind}
use Rattle.pw_plan.specs.declared.domain.DomainKind.TheVariants.{Perf, Throttle, Idle}
use Rattle.pw_plan.specs.declared.domain.Group.{Group}
use Rattle.pw_plan.specs.declared.plan.Plan.{Plan}
use Rattle.pw_plan.specs.Groups.{has_member, is_idle, is_link, is_software}
use Rattle.pw_plan.specs.Places.{cpu_at, group_at, group_of, no_group}
use Rattle.pw_plan.specs.Covering.{covers, same_kind}
use Rattle.pw_plan.proofs.Lists.{and_both, and_first, and_second}
use Rattle.pw_model.specs.declared.state.State.{State}
use Rattle.pw_model.specs.States.{vote_of}
use Rattle.pw_model.specs.Containers.{greatest}
use Rattle.pw_model.specs.Domains.{c_state, governs, is_gathered, is_sw_all, may_enter, state_of}
use Rattle.pw_model.specs.Operations.{drawn_with, enter, is_drawn}
use Rattle.pw_model.specs.Answers.{states_of, states_by, states_along}
use Rattle.pw_model.specs.Containers.{ancestors}
use Rattle.pw_model.proofs.Greatest.{greatest-agree, greatest-le, greatest-most}
use Rattle.pw_model.specs.inner.Wired.{IsWired}
use Rattle.pw_model.specs.Records.{state_of_vote}
use Rattle.pw_model.specs.Effects.{c_state_by, drawn_by, drawn_ops, enter_c, enters_by, gathered_by, state_by}
use Rattle.pw_plan.proofs.Found.{passes}
use Rattle.pw_model.proofs.Levels.{read_place}
use Rattle.pw_base.proofs.Facts.{weaker}
use Rattle.pw_model.proofs.Standings.{each_member}

all_agree : {X : Type 0} (s t : X → Bool) (xs : List X) → AllByRecursion (λ x. s x ≡ t x) xs → list_all s xs ≡ list_all t xs
all_agree s t [] a = refl
all_agree s t (x ∷ xs) a = ap (λ b. b && list_all s xs) a.0 ∙ ap (λ b. t x && b) (all_agree s t xs a.1)

-- two maps of what passes agree where tests and functions do
map_filter : {X Y : Type 0} (f g : X → Y) (s t : X → Bool) (xs : List X) → AllByRecursion (λ x. (s x ≡ t x) × (f x ≡ g x)) xs → map f (filter s xs) ≡ map g (filter t xs)
map_filter f g s t [] a = refl
map_filter f g s t (x ∷ xs) a = ap (λ b. map f (cond b (x ∷ filter s xs) (filter s xs))) a.0.0 ∙ step (t x) (map_filter f g s t xs a.1)
  where
    step : (b : Bool) → map f (filter s xs) ≡ map g (filter t xs) → map f (cond b (x ∷ filter s xs) (filter s xs)) ≡ map g (cond b (x ∷ filter t xs) (filter t xs))
    step true e = let here = a.0.1 in cc
    step false e = e

idle_of : (k : DomainKind) → same_kind k Idle ≡ is_idle k
idle_of Perf = refl
idle_of Throttle = refl
idle_of Idle = refl

-- a domain that governs a C state is a link, and has the processor
governs-link : (p j : ℕ) (d : Domain) → governs p j d ≡ true → is_link d ≡ true
governs-link p j d e =
    let first = and_first (covers Idle p d && is_software d.coord) (state_of d == j) e in
    and_both (is_idle d.kind) (is_software d.coord) (sym (idle_of d.kind) ∙ and_first (same_kind d.kind Idle) (has_member d.members p) (and_first (covers Idle p d) (is_software d.coord) first))
    (and_second (covers Idle p d) (is_software d.coord) first)

governs-member : (p j : ℕ) (d : Domain) → governs p j d ≡ true → has_member d.members p ≡ true
governs-member p j d e =
    and_second (same_kind d.kind Idle) (has_member d.members p) (and_first (covers Idle p d) (is_software d.coord) (and_first (covers Idle p d && is_software d.coord) (state_of d == j) e))

module _ (P : Plan) (wired : IsWired P) where
  pub group_member : (p : ℕ) → group_of P p < length P.groups → has_member (group_at P (group_of P p)).members p ≡ true
  group_member p lt = passes (λ (g : Group). has_member g.members p) P.groups no_group lt

  -- # A member's C state

  module _ (U : State) (g : ℕ) (lt : g < length P.groups) where
    abbrev ms : List ℕ
    ms = (group_at P g).members

    abbrev ss : List ℕ
    ss = map (state_of_vote U) ms

    pub c_state_is : (q : ℕ) → has_member ms q ≡ true → c_state P U q ≡ c_state_by P ms ss q
    c_state_is q on =
        greatest-agree (may_enter P U q) (enters_by P ms ss q) (vote_of U q).state (λ j le. may j)
        ∙ ap (greatest (enters_by P ms ss q)) (sym (read_place (state_of_vote U) ms q on))
      where
        gathers : (d : Domain) → ((r : ℕ) → has_member d.members r ≡ true → has_member ms r ≡ true) → is_gathered U d ≡ gathered_by ms ss d
        gathers d h =
            all_agree (λ r. nat_le (state_of d) (vote_of U r).state) (λ r. nat_le (state_of d) (state_by ms ss r)) d.members
            (each_member (λ r. nat_le (state_of d) (vote_of U r).state ≡ nat_le (state_of d) (state_by ms ss r)) d.members
            (λ r e. ap (nat_le (state_of d)) (sym (read_place (state_of_vote U) ms r (h r e)))))

        one : (j : ℕ) (d : Domain) (b : Bool) → governs q j d ≡ b
            → ((a r : ℕ) → is_link d ≡ true → has_member d.members a ≡ true → has_member d.members r ≡ true → (group_of P a < length P.groups)
            × (has_member (group_at P (group_of P a)).members r ≡ true))
            → (not b || is_gathered U d) ≡ (not b || gathered_by ms ss d)
        one j d false e together = refl
        one j d true e together =
            gathers d (λ r h. ap (λ k. has_member (group_at P k).members r) (sym (wired.one_group g q lt on)) ∙ (together q r (governs-link q j d e) (governs-member q j d e) h).1)

        may : (j : ℕ) → may_enter P U q j ≡ enters_by P ms ss q j
        may j = all_agree (λ d. not (governs q j d) || is_gathered U d) (λ d. not (governs q j d) || gathered_by ms ss d) P.domains
            (weaker (λ (d : Domain). (a r : ℕ) → is_link d ≡ true → has_member d.members a ≡ true → has_member d.members r ≡ true → (group_of P a < length P.groups)
            × (has_member (group_at P (group_of P a)).members r ≡ true))
            (λ d. (not (governs q j d) || is_gathered U d) ≡ (not (governs q j d) || gathered_by ms ss d)) (λ d h. one j d (governs q j d) refl h) P.domains wired.together)

  -- who is in no group has the C state of its vote
  pub c_state_alone : (U : State) (q : ℕ) → length P.groups ≤ group_of P q → c_state P U q ≡ (vote_of U q).state
  c_state_alone U q le =
      let most = greatest-le (may_enter P U q) (vote_of U q).state in
      let least = greatest-most (may_enter P U q) (vote_of U q).state (vote_of U q).state (omega arith) (all_true P.domains wired.together) in
      omega (arith, most, least)
    where
      one : (d : Domain) (b : Bool) → governs q (vote_of U q).state d ≡ b
          → ((a r : ℕ) → is_link d ≡ true → has_member d.members a ≡ true → has_member d.members r ≡ true → (group_of P a < length P.groups)
          × (has_member (group_at P (group_of P a)).members r ≡ true))
          → (not b || is_gathered U d) ≡ true
      one d false e together = refl
      one d true e together =
          let lt = (together q q (governs-link q (vote_of U q).state d e) (governs-member q (vote_of U q).state d e) (governs-member q (vote_of U q).state d e)).0 in
          absurd (omega (arith, lt, le))

      all_true : (ds : List Domain)
          → AllByRecursion (λ (d : Domain). (a r : ℕ) → is_link d ≡ true → has_member d.members a ≡ true → has_member d.members r ≡ true → (group_of P a < length P.groups)
          × (has_member (group_at P (group_of P a)).members r ≡ true)) ds
          → list_all (λ d. not (governs q (vote_of U q).state d) || is_gathered U d) ds ≡ true
      all_true [] a = refl
      all_true (d ∷ ds) a = and_both (not (governs q (vote_of U q).state d) || is_gathered U d) (list_all (λ d. not (governs q (vote_of U q).state d) || is_gathered U d) ds)
          (one d (governs q (vote_of U q).state d) refl a.0) (all_true ds a.1)

  -- # Who is drawn along

  pub states_of-Cst : (U : State) (q : ℕ) → (cpu_at P q).idle.kind ≡ Cst → states_of P U q ≡ c_state P U q ∷ []
  states_of-Cst U q e = ap (λ k. states_by k (c_state P U q ∷ []) ((vote_of U q).state ∷ states_along P U (ancestors P q))) e

  pub enter-Cst : (U : State) (q : ℕ) → (cpu_at P q).idle.kind ≡ Cst → enter P U q ≡ enter_c P q (c_state P U q)
  enter-Cst U q e = ap (λ ss. op.Enter q (composite_of P q ss)) (states_of-Cst U q e)

  pub drawn_is : (S T : State) (p : ℕ) → group_of P p < length P.groups
      → map (enter P T) (drawn_with P S T p)
      ≡ drawn_ops P (group_at P (group_of P p)).members (map (state_of_vote S) (group_at P (group_of P p)).members) (map (state_of_vote T) (group_at P (group_of P p)).members) p
  drawn_is S T p lt =
      let ms = (group_at P (group_of P p)).members in
      let old = map (state_of_vote S) ms in
      let new = map (state_of_vote T) ms in
      map_filter (enter P T) (λ q. enter_c P q (c_state_by P ms new q)) (λ q. not (q == p) && is_drawn P S T q) (λ q. not (q == p) && drawn_by P ms old new q) ms
      (each_member (λ q. ((not (q == p) && is_drawn P S T q) ≡ (not (q == p) && drawn_by P ms old new q)) × (enter P T q ≡ enter_c P q (c_state_by P ms new q))) ms
      (λ q on.
      let before = c_state_is S (group_of P p) lt q on in
      let after = c_state_is T (group_of P p) lt q on in (
        ap (λ c. not (q == p) && (nat_lt c (c_state P T q) && list_any (λ (d : Domain). governs q (c_state P T q) d && is_sw_all d.coord) P.domains)) before
            ∙ ap (λ c. not (q == p) && (nat_lt (c_state_by P ms old q) c && list_any (λ (d : Domain). governs q c d && is_sw_all d.coord) P.domains)) after,
        enter-Cst T q (wired.kind (group_of P p) q lt on) ∙ ap (enter_c P q) after,
      )))

  -- # Past the groups

  pub no_members : (g : ℕ) → length P.groups ≤ g → (group_at P g).members ≡ []
  unfolding no_group
  no_members g le = ap (λ (x : Group). x.members) (get_or_past P.groups g no_group le)

  pub none_drawn : (S T : State) (p : ℕ) → length P.groups ≤ group_of P p → drawn_with P S T p ≡ []
  none_drawn S T p le = ap (filter (λ q. not (q == p) && is_drawn P S T q)) (no_members (group_of P p) le)

  -- who is in a group is in one of the plan
  pub in_plan : (g p : ℕ) → has_member (group_at P g).members p ≡ true → g < length P.groups
  in_plan g p on = elim (cases_lt g (length P.groups)) [
    | inl lt ↦ lt
    | inr le ↦ let e : has_member [] p ≡ true = ap (λ ms. has_member ms p) (sym (no_members g le)) ∙ on in cc
  ]

  -- who has no C states is in no group
  pub ungrouped : (p : ℕ) → ((cpu_at P p).idle.kind ≡ Cst → ⊥) → length P.groups ≤ group_of P p
  ungrouped p other = elim (cases_lt (group_of P p) (length P.groups)) [
    | inl lt ↦ absurd (other (wired.kind (group_of P p) p lt (group_member p lt)))
    | inr le ↦ le
  ]
