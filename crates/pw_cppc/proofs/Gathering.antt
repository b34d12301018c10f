-- What the standing of domains amounts to.
use Rattle.std.proofs.Common.{◌≡◌, ◌≤◌, ℕ, max, min, true, cond, List, [], ◌∷◌, map, ap, arith, inl, inr}
use Rattle.std.specs.Prelude.{fold, ◌⊎◌}
use Rattle.std.specs.List.{AllByRecursion}
use Rattle.std.proofs.lemmas.Bool.{cases_lt}
use Rattle.pw_plan.specs.Groups.{has_member, is_software}
use Rattle.pw_model.proofs.Gathering.{of_member}
use Rattle.pw_model.proofs.Maps.{fold_min-each, fold_min-least}
use Rattle.pw_cppc.specs.declared.plan.CppcPlan.{CppcPlan}
use Rattle.pw_cppc.specs.Planning.{domain_at}
use Rattle.pw_cppc.specs.declared.numbers.CppcNumbers.{CppcNumbers}
use Rattle.pw_cppc.specs.States.{any_performance, ask_of, maximum_of, minimum_of, standing, stands_at, within}
use Rattle.pw_cppc.specs.Laws.{IsAllowed, Satisfies}
use Rattle.pw_base.proofs.Facts.{weaker}
use Rattle.pw_model.proofs.Standings.{each_member}

-- # The greatest

max-le : (f : ℕ → ℕ) (least : ℕ) (ms : List ℕ) → least ≤ fold max least (map f ms)
max-le f least [] = omega arith
max-le f least (m ∷ ms) = let a = max-le f (max least (f m)) ms in omega (arith, a)

max-each : (f : ℕ → ℕ) (least : ℕ) (ms : List ℕ) → AllByRecursion (λ m. f m ≤ fold max least (map f ms)) ms
max-each f least [] = tt
max-each f least (m ∷ ms) = (let a = max-le f (max least (f m)) ms in omega (arith, a), max-each f (max least (f m)) ms)

max-least : (f : ℕ → ℕ) (t least : ℕ) (ms : List ℕ) → least ≤ t → AllByRecursion (λ m. f m ≤ t) ms → fold max least (map f ms) ≤ t
max-least f t least [] le a = le
max-least f t least (m ∷ ms) le a = max-least f t (max least (f m)) ms (let b = a.0 in omega (arith, b)) a.1

module _ (P : CppcPlan) (S : CppcNumbers) (d p : ℕ) (soft : is_software (domain_at P d).coord ≡ true) where
  abbrev members : List ℕ
  members = (domain_at P d).members

  abbrev ask : ℕ
  ask = fold max 0 (map (ask_of S) members)

  abbrev minimum : ℕ
  minimum = fold max 0 (map (minimum_of S) members)

  abbrev maximum : ℕ
  maximum = fold min any_performance (map (maximum_of S) members)

  stands : standing P S d p ≡ within ask minimum maximum
  stands = ap (λ b. cond b (stands_at (map (ask_of S) members) (map (minimum_of S) members) (map (maximum_of S) members)) (within (ask_of S p) (minimum_of S p) (maximum_of S p))) soft

  pub stands_allowed : IsAllowed P S d (standing P S d p)
  stands_allowed q m =
      let is = stands in
      let le = of_member (λ n. maximum ≤ maximum_of S n) members q (fold_min-each (maximum_of S) any_performance members) m in
      omega (arith, is, le)

  pub stands_least : (v : ℕ) → Satisfies P S d v → standing P S d p ≤ v
  stands_least v h =
      let is = stands in
      let asks = max-least (ask_of S) v 0 members (omega arith) (each_member (λ q. ask_of S q ≤ v) members (λ q m. (h q m).0)) in
      let minima = max-least (minimum_of S) v 0 members (omega arith) (each_member (λ q. minimum_of S q ≤ v) members (λ q m. (h q m).1)) in
      omega (arith, is, asks, minima)

  allowed_most : (v : ℕ) → v ≤ any_performance → IsAllowed P S d v → v ≤ maximum
  allowed_most v le h = fold_min-least (maximum_of S) v any_performance members le (each_member (λ q. v ≤ maximum_of S q) members h)

  satisfied_from : (v : ℕ) → ask ≤ v → minimum ≤ v → Satisfies P S d v
  satisfied_from v asks minima q m =
      let a = of_member (λ n. ask_of S n ≤ ask) members q (max-each (ask_of S) 0 members) m in
      let b = of_member (λ n. minimum_of S n ≤ minimum) members q (max-each (minimum_of S) 0 members) m in
      (omega (arith, a, asks), omega (arith, b, minima))

  pub stands_fast : (v : ℕ) → v ≤ any_performance → IsAllowed P S d v → (v ≤ standing P S d p) ⊎ Satisfies P S d (standing P S d p)
  stands_fast v le h =
      let is = stands in
      let most = allowed_most v le h in
      elim (cases_lt maximum (max minimum ask)) [
        | inl lt ↦ inl (omega (arith, is, most, lt))
        | inr ge ↦ inr (satisfied_from (standing P S d p) (omega (arith, is, ge)) (omega (arith, is, ge)))
      ]

  pub stands_satisfied : (v : ℕ) → v ≤ any_performance → IsAllowed P S d v → Satisfies P S d v → Satisfies P S d (standing P S d p)
  stands_satisfied v le h all = elim (stands_fast v le h) [
    | inl lt ↦ λ q m. let each = all q m in let a = each.0 in let b = each.1 in (omega (arith, a, lt), omega (arith, b, lt))
    | inr s ↦ s
  ]
