-- Where a plan says that processors stand.
use Rattle.std.proofs.Common.{◌≡◌, ◌<◌, ◌≤◌, not, ℕ, suc, zero, Bool, true, false, cond, List, [], ◌∷◌, length, get_or, Option, Some, None, refl, ap, ◌∙◌, arith, zero-add, inl, inr}
use Rattle.std.specs.Prelude.{nat_lt, MatchOption}
use Rattle.std.specs.List.{position, position_or_len, slice_get}
use Rattle.std.proofs.lemmas.Bool.{cases_lt}
use Rattle.std.proofs.lemmas.Bool.Decides.{nat_tests}
use Rattle.std.proofs.lemmas.List.Elements.{recursion_from_All}
use Rattle.std.proofs.lemmas.List.FromFn.{get_or-map-range_with_len, length-map-range_with_len}
use Rattle.std.proofs.lemmas.List.Sums.{prefix_len-le-length}
use Rattle.pw_plan.proofs.Found.{passes}
use Rattle.pw_plan.proofs.Grouping.{member_bound}
use Rattle.pw_cppc.specs.declared.plan.CppcPlan.{CppcPlan}
use Rattle.pw_cppc.specs.Sound.{covers, domain_in, no_domain}
use Rattle.pw_cppc.specs.Planning.{domain_of}
use Rattle.pw_plan.proofs.Memberships.{get_some, get_none, place_le}

-- what the place of the first that passes tells
position_is : {X : Type 0} (t : X → Bool) (xs : List X) → MatchOption (position t xs) (position_or_len t xs ≡ length xs) (λ d. (position_or_len t xs ≡ d) × (d < length xs))
position_is t xs = by (nat_lt (position_or_len t xs) (length xs)) refl
  where
    by : (b : Bool) → nat_lt (position_or_len t xs) (length xs) ≡ b
        → MatchOption (cond b (Some (position_or_len t xs)) None) (position_or_len t xs ≡ length xs) (λ d. (position_or_len t xs ≡ d) × (d < length xs))
    by true h = (refl, grind (arith, nat_tests))
    by false h = let le = place_le t xs in let ge : length xs ≤ position_or_len t xs = grind (arith, nat_tests) in omega (arith, le, ge)

module _ (P : CppcPlan) (p : ℕ) where
  size : length P.places ≡ length P.cpus
  size = ap length P.planned.places_are ∙ length-map-range_with_len (λ q. position (covers q) P.domains) 0 (length P.cpus)

  place_is : (d : Option ℕ) → p < length P.cpus → get_or P.places p d ≡ position (covers p) P.domains
  place_is d lt =
      ap (λ xs. get_or xs p d) P.planned.places_are
      ∙ get_or-map-range_with_len (λ q. position (covers q) P.domains) 0 (length P.cpus) p p d lt (zero-add p)

  found : p < length P.cpus → slice_get P.places p ≡ Some (position (covers p) P.domains)
  found lt = let n = size in get_some P.places p None (omega (arith, n, lt)) ∙ ap (λ x. Some x) (place_is None lt)

  none : length P.cpus ≤ p → slice_get P.places p ≡ None
  none le = let n = size in get_none P.places p (omega (arith, n, le))

  -- who is no processor of the plan is in no domain
  pub no_domain_of : length P.cpus ≤ p → domain_of P p ≡ length P.domains
  no_domain_of le = elim (cases_lt (domain_of P p) (length P.domains)) [
    | inl lt ↦
        let q = domain_of P p in
        let on = passes (covers p) P.domains no_domain lt in
        let exist = recursion_from_All (λ q. q < length P.cpus) (domain_in P.domains q).members (P.sound.members q no_domain lt) in
        let below = member_bound (length P.cpus) (domain_in P.domains q).members exist p on in
        absurd (omega (arith, le, below))
    | inr ge ↦ let b = place_le (covers p) P.domains in omega (arith, ge, b)
  ]

  -- where no place is found there is no such processor
  pub place_none : None ≡ slice_get P.places p → domain_of P p ≡ length P.domains
  place_none e = elim (cases_lt p (length P.cpus)) [
    | inl lt ↦ let is = found lt in cc
    | inr le ↦ no_domain_of le
  ]

  -- the place that is found
  pub place_some : (r : Option ℕ) → Some r ≡ slice_get P.places p → MatchOption r (domain_of P p ≡ length P.domains) (λ d. (domain_of P p ≡ d) × (d < length P.domains))
  place_some r e = elim (cases_lt p (length P.cpus)) [
    | inl lt ↦
        let is = found lt in
        let same : r ≡ position (covers p) P.domains = cc in
        rw same (position_is (covers p) P.domains)
    | inr le ↦ let is = none le in cc
  ]
