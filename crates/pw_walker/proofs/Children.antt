-- A child's place in the record of its container.
use Rattle.std.proofs.Common.{◌≡◌, ◌<◌, ◌≤◌, ℕ, List, length, get_or, set, Some, refl, ap, sym, subst, ◌∙◌, arith}
use Rattle.std.proofs.lemmas.List.{get_or_default}
use Rattle.acpi_values.specs.Idle.{rows_of}
use Rattle.pw_plan.specs.declared.domain.Child.{Child}
use Rattle.pw_plan.specs.declared.domain.Child.TheVariants.{Cpu}
use Rattle.pw_plan.specs.declared.plan.Plan.{Plan}
use Rattle.pw_plan.specs.Places.{IsChildPlace, children_at, parent_of, table_of}
use Rattle.pw_model.specs.declared.state.Vote.{Vote}
use Rattle.pw_model.specs.Containers.{node_vote}
use Rattle.pw_model.specs.Calls.{node_state, node_tolerance, with_vote}
use Rattle.pw_model.specs.Effects.{child_place, votes_in, votes_with}
use Rattle.pw_model.specs.Holding.{table_at}
use Rattle.pw_model.specs.Records.{Part, votes}
use Rattle.pw_model.proofs.Calls.{calls_serve}
use Rattle.pw_walker.proofs.Counts.{children_few}

module _ (P : Plan) (c : Child) (n k m : ℕ) (number : m ≡ n) (parent : parent_of P c ≡ Some n) (place : IsChildPlace P c k) where
  pub child_within : k < length (children_at P m)
  child_within = rw number (place n parent).0

  pub child_small : n < length P.containers → k ≤ 512
  child_small lt = let a = (place n parent).0 in let b = children_few P n lt in omega (arith, a, b)

  pub child_here : get_or (children_at P n) k (Cpu 0) ≡ c
  child_here = get_or_default (children_at P n) k (Cpu 0) c (place n parent).0 ∙ (place n parent).1

  pub child_fits : (v : Vote) → v.state ≤ length (rows_of (table_of P c)) → v.state ≤ table_at P m k
  child_fits v le = rw number (subst (λ d. v.state ≤ length (rows_of (table_of P d))) (sym child_here) le)

  pub child_at : child_place P n c ≡ k
  child_at = subst (λ d. child_place P n d ≡ k) child_here ((calls_serve P).child_at n k (place n parent).0)

  pub child_voted : (v : Vote) (x y : Part) → y ≡ with_vote k v x → y ≡ votes (votes_with P n c v (votes_in x))
  child_voted v x y e = e ∙ ap (λ j. votes (set (votes_in x) j v)) (sym child_at)

-- the vote of a container by its record's answers
pub voted_is : (P : Plan) (n m : ℕ) (x : Part) (vs : List Vote) (s t : ℕ) → m ≡ n → x ≡ votes vs → s ≡ node_state P m x → t ≡ node_tolerance P m x
    → ◌≡◌ {A = Vote} (record { state = s; tolerance = t }) (node_vote P n vs)
voted_is P n m x vs s t number e a b = rw (a, b, number, e) refl
