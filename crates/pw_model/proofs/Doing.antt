-- A request does in a state what its effect says.
use Rattle.std.proofs.Common.{◌≡◌, ◌==◌, ℕ, true, false, cond, List, [], ◌∷◌, map, get_or, refl, ◌∙◌, ap, inl}
use Rattle.std.specs.List.{AllByRecursion}
use Rattle.acpi_values.specs.declared.operation.Op.{Op}
use Rattle.pw_plan.specs.declared.domain.DomainKind.{DomainKind}
use Rattle.pw_plan.specs.declared.plan.Plan.{Plan}
use Rattle.pw_plan.specs.Groups.{has_member, is_idle}
use Rattle.pw_plan.specs.Places.{domain_at, domain_of, group_at}
use Rattle.pw_model.specs.declared.reply.Reply.{Reply}
use Rattle.pw_model.specs.declared.reply.Reply.TheVariants.{Stands, AboveLimit}
use Rattle.pw_model.specs.declared.state.Change.{Change}
use Rattle.pw_model.specs.declared.state.State.{State}
use Rattle.pw_model.specs.States.{running, with_change}
use Rattle.pw_model.specs.Domains.{standing}
use Rattle.pw_model.specs.Operations.{domain_ops, set_at, set_on}
use Rattle.pw_model.proofs.Standings.{Spares}
use Rattle.pw_model.proofs.Votes.{child_votes-by_votes}
use Rattle.pw_model.specs.Numbers.{IsIn}
use Rattle.pw_model.specs.Records.{Record, container, domain, group, Part, votes, states, part_of}
use Rattle.pw_model.specs.Effects.{Effect, Taken, level_effect, member_place, refused_above, standing_in, takes_in}
use Rattle.pw_model.proofs.Levels.{HasDomain, spared, standing_is}

-- From state S to T, with these records, this answer and these operations, happens what the effect says.
pub record Does (P : Plan) (S T : State) (places : List Record) (reply : Reply) (ops : List Op) (d : Effect) : Type 0 where
  pub takes : places ≡ takes_in d.takes
  pub answers : reply ≡ d.reply
  pub operates : ops ≡ d.ops
  pub parts : AllByRecursion (λ (t : Taken). part_of P T t.place ≡ t.part) d.takes
  pub rest : (r : Record) → (IsIn r (takes_in d.takes) → ⊥) → part_of P T r ≡ part_of P S r

module _ (P : Plan) (S : State) where
  -- # Requests on domains

  group_by_votes : (T : State) (g : ℕ) → T.votes ≡ S.votes → part_of P T (group g) ≡ part_of P S (group g)
  group_by_votes T g e = ap (λ vs. states (map (λ q. (get_or vs q running).state) (group_at P g).members)) e

  module _ (kind : DomainKind) (p : ℕ) (scaled : is_idle kind ≡ false) (has : HasDomain P kind p) where
    -- what changes one entry of the domain's members
    pub level_does : (c : Change) (y : Part) → part_of P (with_change S c) (domain (domain_of P kind p)) ≡ y → (with_change S c).votes ≡ S.votes
        → ((d q : ℕ) → (d ≡ domain_of P kind p → ⊥) → has_member (domain_at P d).members q ≡ true → Spares c (domain_at P d).kind q)
        → Does P S (with_change S c) (domain (domain_of P kind p) ∷ []) (Stands (standing P (with_change S c) (domain_of P kind p) p)) (domain_ops P S (with_change S c) kind p)
        (level_effect P kind p (domain_of P kind p) (part_of P S (domain (domain_of P kind p))) y)
    level_does c y part_is same_votes spares =
        let d = domain_of P kind p in
        let T = with_change S c in
        let D = domain_at P d in
        let k = member_place D.members p in
        let before : standing P S d p ≡ standing_in D (part_of P S (domain d)) k = standing_is P S d p has.member in
        let after : standing P T d p ≡ standing_in D y k = standing_is P T d p has.member ∙ ap (λ x. standing_in D x k) part_is in
        record {
          takes = refl;
          answers = ap (λ n. Stands n) after;
          operates = ap (λ n. cond (n == standing P T d p) [] (map (set_on P kind (standing P T d p)) (set_at D.coord D.members p))) before
              ∙ ap (λ n. cond (standing_in D (part_of P S (domain d)) k == n) [] (map (set_on P kind n) (set_at D.coord D.members p))) after;
          parts = (part_is, tt);
          rest = λ r out. rest r out;
        }
      where
        rest : (r : Record) → (IsIn r (domain (domain_of P kind p) ∷ []) → ⊥) → part_of P (with_change S c) r ≡ part_of P S r
        rest (container n) out = ap (λ vs. votes vs) (child_votes-by_votes P (with_change S c) S n same_votes)
        rest (domain d) out = spared (domain_at P d).kind (domain_at P d).members S c (λ q on. spares d q (λ e. out (inl (ap (λ i. domain i) e))) on)
        rest (group g) out = group_by_votes (with_change S c) g same_votes

    pub refused_does : (d limit : ℕ) → Does P S S (domain d ∷ []) (AboveLimit limit) [] (refused_above (domain d) (part_of P S (domain d)) limit)
    refused_does d limit = record { takes = refl; answers = refl; operates = refl; parts = (refl, tt); rest = λ r out. refl }
