-- An old element set back makes the part before.
use Rattle.std.proofs.Common.{◌≡◌, ◌<◌, ℕ, Bool, true, false, cond, List, [], ◌∷◌, length, get_or, set, refl, ap, sym, subst, ◌∙◌}
use Rattle.std.specs.Prelude.{nat_lt}
use Rattle.std.proofs.lemmas.List.{set-get_or, set-set}
use Rattle.pw_plan.specs.declared.domain.Child.{Child}
use Rattle.pw_plan.specs.declared.domain.DomainKind.{DomainKind}
use Rattle.pw_plan.specs.declared.plan.Plan.{Plan}
use Rattle.pw_plan.specs.Parts.{scale_of}
use Rattle.pw_plan.specs.Places.{cpu_at, domain_at, group_at}
use Rattle.pw_model.specs.declared.state.Vote.{Vote}
use Rattle.pw_model.specs.States.{capped, running}
use Rattle.pw_model.specs.Calls.{with_state, with_vote}
use Rattle.pw_model.specs.Effects.{ask_effect, child_place, level_effect, limit_effect, member_place, refused_above, votes_with, with_ask, with_limit}
use Rattle.pw_model.specs.Holding.{HoldsLevels, HoldsStates}
use Rattle.pw_model.specs.Records.{Part, domain, levels, states, votes}
use Rattle.pw_domain.specs.declared.domain.DomainRec.{DomainRec}
use Rattle.pw_domain.specs.declared.group.GroupRec.{GroupRec}
use Rattle.pw_machine.specs.Walk.{first_left}
use Rattle.pw_walker.specs.Records.{IsDomain, IsGroup}
use Rattle.pw_walker.specs.Undoing.{FitsState, IsMemberIndex}

-- a list with an element set, and its old one set again
set_back : {X : Type 0} (xs : List X) (k : ℕ) (x d : X) → set (set xs k x) k (get_or xs k d) ≡ xs
set_back xs k x d = set-set xs k x (get_or xs k d) ∙ set-get_or xs k d

-- # Containers

pub vote_undone : (P : Plan) (n : ℕ) (c : Child) (v w : Vote) (vs : List Vote) (k : ℕ) (y : Part) → k ≡ child_place P n c → w ≡ get_or vs k running
    → y ≡ votes (votes_with P n c v vs) → with_vote k w y ≡ votes vs
vote_undone P n c v w vs k y at is e =
    ap (λ z. with_vote k w z) e ∙ ap (λ j. votes (set (set vs j v) k w)) (sym at) ∙ ap (λ u. votes (set (set vs k v) k u)) is ∙ ap votes (set_back vs k v running)

-- # Domains

ask_undone : (asks limits : List ℕ) (k i : ℕ) (refused : Bool)
    → with_ask k (get_or asks k 0) (cond refused (levels asks limits) (with_ask k i (levels asks limits))) ≡ levels asks limits
ask_undone asks limits k i true = ap (λ xs. levels xs limits) (set-get_or asks k 0)
ask_undone asks limits k i false = ap (λ xs. levels xs limits) (set_back asks k i 0)

module _ (P : Plan) (kind : DomainKind) (p d k : ℕ) (asks limits : List ℕ) (y : Part) (at : k ≡ member_place (domain_at P d).members p) where
  abbrev x : Part
  x = levels asks limits

  pub ask_back : (i a : ℕ) → a ≡ get_or asks k 0 → (ask_effect P kind p i d x).takes ≡ record { place = domain d; part = y } ∷ [] → with_ask k a y ≡ x
  ask_back i a ae e =
      let above = nat_lt i (get_or limits (member_place (domain_at P d).members p) 0) in
      let is : y ≡ cond above x (with_ask (member_place (domain_at P d).members p) i x) = sym (ap (first_left x) e) ∙ made above in
      ap (λ z. with_ask k z y) ae ∙ ap (λ z. with_ask k (get_or asks k 0) z) is
      ∙ ap (λ j. with_ask k (get_or asks k 0) (cond above x (with_ask j i x))) (sym at) ∙ ask_undone asks limits k i above
    where
      made : (b : Bool) → first_left x (cond b (refused_above (domain d) x (get_or limits (member_place (domain_at P d).members p) 0))
          (level_effect P kind p d x (with_ask (member_place (domain_at P d).members p) i x))).takes ≡ cond b x (with_ask (member_place (domain_at P d).members p) i x)
      made true = refl
      made false = refl

  pub limit_back : (n a : ℕ) → a ≡ get_or limits k 0 → (limit_effect P kind p n d x).takes ≡ record { place = domain d; part = y } ∷ [] → with_limit k a y ≡ x
  limit_back n a ae e =
      let most = capped (scale_of kind (cpu_at P p)) n in
      let is : y ≡ with_limit (member_place (domain_at P d).members p) most x = sym (ap (first_left x) e) in
      ap (λ z. with_limit k z y) ae ∙ ap (λ z. with_limit k (get_or limits k 0) z) is
      ∙ ap (λ j. with_limit k (get_or limits k 0) (with_limit j most x)) (sym at) ∙ ap (λ xs. levels asks xs) (set_back limits k most 0)

module _ (P : Plan) (d k : ℕ) (r : DomainRec) (is : IsDomain P d r) (lt : k < length (domain_at P d).members) where
  holds_levels : HoldsLevels P d r.asks r.limits
  holds_levels = subst (λ e. HoldsLevels P e r.asks r.limits) is.number is.of.holds

  pub ask_stands : IsMemberIndex P d k (get_or r.asks k 0)
  ask_stands = (lt, holds_levels.ask k lt)

  pub limit_stands : IsMemberIndex P d k (get_or r.limits k 0)
  limit_stands = (lt, holds_levels.limit k lt)

-- # Groups

pub state_undone : (ss : List ℕ) (k s : ℕ) (y : Part) → y ≡ with_state k s (states ss) → with_state k (get_or ss k 0) y ≡ states ss
state_undone ss k s y e = ap (λ z. with_state k (get_or ss k 0) z) e ∙ ap states (set_back ss k s 0)

pub state_stands : (P : Plan) (g k : ℕ) (r : GroupRec) → IsGroup P g r → k < length (group_at P g).members → FitsState P g (record { member = k; state = get_or r.states k 0 })
state_stands P g k r is lt =
    let holds = subst (λ e. HoldsStates P e r.states) is.number is.of.holds in
    record { member = lt; state = holds.states k lt }
