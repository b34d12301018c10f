-- The computed list is the list of the domains.
use Rattle.std.proofs.Common.{◌≡◌, ◌<◌, ◌≤◌, not, ℕ, Bool, true, false, List, map, length, refl, ap, sym, ◌∙◌, subst, inl, inr, arith}
use Rattle.std.specs.Prelude.{Any, filter, nat_lt}
use Rattle.std.specs.List.{list_all, range_with_len, AllByRecursion}
use Rattle.std.proofs.lemmas.Bool.{cases_lt, lt-ltb, ltb-true}
use Rattle.std.proofs.lemmas.List.Elements.{All-from_recursion}
use Rattle.pw_plan.specs.Groups.{first_of, has_member}
use Rattle.pw_plan.proofs.Grouping.{negated, some_member}
use Rattle.pw_plan.proofs.Lists.{and_both, and_first, and_second}
use Rattle.pw_plan.proofs.Ordered.{In, Sorted, in_any, in_kept, pairs_from}
use Rattle.pw_plan.proofs.Rising.{first_there, rising_is}
use Rattle.pw_cppc.specs.declared.parts.CppcParts.{CppcParts}
use Rattle.pw_cppc.specs.declared.plan.CppcDomain.{CppcDomain}
use Rattle.pw_cppc.specs.Parts.{has_cpc}
use Rattle.pw_cppc.specs.Domains.{AreDomains, IsDomain, domain_led_by, domains_of, leads, members_of, shown, together, why_unfit}
use Rattle.pw_cppc.proofs.Kept.{all_range, each_made, first_least, in_range, kept_each, kept_has, kept_only, kept_rises, made_sorted, range_all}
use Rattle.pw_cppc.proofs.Together.{together_back, together_itself, together_second, together_through}
use Rattle.pw_base.proofs.Facts.{same_truth}

-- whether a domain's first member is before that of another
abbrev pub stands_before : CppcDomain → CppcDomain → Bool
stands_before d e = nat_lt (first_of d.members) (first_of e.members)

pub list_is : (ps : List CppcParts) → domains_of ps ≡ map (domain_led_by ps) (filter (leads ps) (range_with_len 0 (length ps)))
unfolding domains_of
list_is ps = refl

module _ (ps : List CppcParts) where
  -- # Members

  is_member : (p q : ℕ) → q < length ps → together ps p q ≡ true → has_member (members_of ps p) q ≡ true
  is_member p q lt e = kept_has (together ps p) 0 (length ps) q (omega arith) (omega arith) e

  member_is : (p q : ℕ) → has_member (members_of ps p) q ≡ true → (q < length ps) × (together ps p q ≡ true)
  member_is p q e = kept_only (together ps p) (length ps) q e

  -- the first member
  first_is : (p : ℕ) → p < length ps → has_cpc ps p ≡ true → (first_of (members_of ps p) ≤ p) × (first_of (members_of ps p) < length ps) × (together ps p (first_of (members_of ps p)) ≡ true)
  first_is p lt has =
      let own = is_member p p lt (together_itself ps p has) in
      let first = member_is p (first_of (members_of ps p)) (first_there (members_of ps p) (some_member (members_of ps p) p own)) in
      (first_least 0 p (members_of ps p) (kept_rises (together ps p) 0 (length ps)) own, first.0, first.1)

  -- # Who leads

  leader_has : (p : ℕ) → leads ps p ≡ true → has_cpc ps p ≡ true
  leader_has p l = and_first (has_cpc ps p) (list_all (λ q. not (together ps q p)) (range_with_len 0 p)) l

  none_before : (p q : ℕ) → leads ps p ≡ true → q < p → together ps q p ≡ false
  none_before p q l lt = negated (together ps q p) (all_range (λ q. not (together ps q p)) 0 p q
      (and_second (has_cpc ps p) (list_all (λ q. not (together ps q p)) (range_with_len 0 p)) l) (omega arith) (omega arith))

  leader_first : (p : ℕ) → p < length ps → leads ps p ≡ true → first_of (members_of ps p) ≡ p
  leader_first p lt l =
      let m = first_of (members_of ps p) in
      let first = first_is p lt (leader_has p l) in
      let le = first.0 in
      elim (cases_lt m p) [
        | inl less ↦
            let no = none_before p m l less in
            let yes = together_back ps p m first.2 in
            cc
        | inr ge ↦ omega (arith, le, ge)
      ]

  -- the first member of a processor's domain leads it
  first_leads : (p : ℕ) → p < length ps → has_cpc ps p ≡ true → leads ps (first_of (members_of ps p)) ≡ true
  first_leads p lt has = and_both (has_cpc ps m) (list_all (λ q. not (together ps q m)) (range_with_len 0 m)) (together_second ps p m first.2)
      (range_all (λ q. not (together ps q m)) 0 m (λ q a b. alone q (omega arith) (together ps q m) refl))
    where
      m : ℕ
      m = first_of (members_of ps p)

      first : (m ≤ p) × (m < length ps) × (together ps p m ≡ true)
      first = first_is p lt has

      alone : (q : ℕ) → q < m → (b : Bool) → together ps q m ≡ b → not b ≡ true
      alone q less true e =
          let below = first.1 in
          let own = is_member p q (omega (arith, below, less)) (together_through ps p m q first.2 (together_back ps q m e)) in
          let least = first_least 0 q (members_of ps p) (kept_rises (together ps p) 0 (length ps)) own in
          absurd (omega (arith, least, less))
      alone q less false e = refl

  -- # Each is a domain

  is_domain : (p : ℕ) → p < length ps → leads ps p ≡ true → IsDomain ps (domain_led_by ps p)
  is_domain p lt l = record {
    some = some_member (members_of ps p) p (is_member p p lt (together_itself ps p (leader_has p l)));
    exist = All-from_recursion (λ q. (q < length ps) × (has_cpc ps q ≡ true)) (members_of ps p)
        (kept_each (λ q. (q < length ps) × (has_cpc ps q ≡ true)) (together ps p) 0 (length ps) (λ q a b e. (omega arith, together_second ps p q e)));
    rising = rising_is 0 (members_of ps p) (kept_rises (together ps p) 0 (length ps));
    joined = λ q below. same_truth (has_member (members_of ps p) q) (together ps p q) (λ e. (member_is p q e).1) (is_member p q below) ∙ ap (λ k. together ps k q) (sym (leader_first p lt l));
    coord = ap (λ k. (shown ps k).coord) (sym (leader_first p lt l));
    unfit = ap (λ k. why_unfit ps k (members_of ps p)) (sym (leader_first p lt l));
  }

  each_led : (Q : CppcDomain → Type 0) → ((p : ℕ) → p < length ps → leads ps p ≡ true → Q (domain_led_by ps p))
      → AllByRecursion Q (map (domain_led_by ps) (filter (leads ps) (range_with_len 0 (length ps))))
  each_led Q h = each_made Q (domain_led_by ps) (filter (leads ps) (range_with_len 0 (length ps)))
      (kept_each (λ p. Q (domain_led_by ps p)) (leads ps) 0 (length ps) (λ p a b e. h p (omega arith) e))

  -- what holds of whatever a leader's domain is holds of all
  pub each_domain : (Q : CppcDomain → Type 0) → ((p : ℕ) → p < length ps → leads ps p ≡ true → Q (domain_led_by ps p)) → AllByRecursion Q (domains_of ps)
  each_domain Q h = subst (AllByRecursion Q) (sym (list_is ps)) (each_led Q h)

  pub all_are : AllByRecursion (IsDomain ps) (domains_of ps)
  all_are = each_domain (IsDomain ps) is_domain

  -- # Each processor with `_CPC` is in one

  pub placed : (p : ℕ) → p < length ps → has_cpc ps p ≡ true → Any (λ (d : CppcDomain). has_member d.members p ≡ true) (domains_of ps)
  placed p lt has =
      let m = first_of (members_of ps p) in
      let first = first_is p lt has in
      let below = first.1 in
      let there : In (domain_led_by ps m) (domains_of ps) = subst (In (domain_led_by ps m)) (sym (list_is ps))
      (in_kept (domain_led_by ps) (leads ps) (range_with_len 0 (length ps)) m (in_range 0 (length ps) m (omega arith) (omega (arith, below))) (first_leads p lt has)) in
      in_any (λ (d : CppcDomain). has_member d.members p ≡ true) (domains_of ps) (domain_led_by ps m) there (is_member m p lt (together_back ps p m first.2))

  -- # In order

  pub in_order : Sorted stands_before (domains_of ps)
  in_order = subst (Sorted stands_before) (sym (list_is ps)) (made_sorted stands_before (domain_led_by ps) (leads ps) 0 (length ps) (λ p q less below a b.
      let e = leader_first p (omega (arith, less, below)) a in
      let f = leader_first q (omega (arith, below)) b in
      lt-ltb (first_of (members_of ps p)) (first_of (members_of ps q)) (omega (arith, e, f, less))))

  pub are_domains : AreDomains ps (domains_of ps)
  are_domains = record {
    each = All-from_recursion (IsDomain ps) (domains_of ps) all_are;
    placed = placed;
    order = λ i j d less below. ltb-true _ _ (pairs_from stands_before (domains_of ps) in_order i j d less below);
  }
