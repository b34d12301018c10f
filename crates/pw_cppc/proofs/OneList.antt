-- There is just one list of the domains of these processors.
use Rattle.std.proofs.Common.{◌≡◌, ◌<◌, ◌==◌, ◌||◌, ℕ, suc, Bool, true, false, List, [], ◌∷◌, length, refl, ap, sym, ◌∙◌, subst, ◌⊎◌, inl, inr, arith, eqb-true, eq-eqb}
use Rattle.std.specs.Prelude.{nat_lt}
use Rattle.std.specs.List.{AllByRecursion}
use Rattle.std.proofs.lemmas.Bool.{lt-ltb}
use Rattle.std.proofs.lemmas.List.Elements.{recursion_from_All}
use Rattle.acpi_values.specs.declared.dependency.Coord.{Coord}
use Rattle.pw_plan.specs.Groups.{first_of, has_member}
use Rattle.pw_plan.proofs.Lists.{or_left, or_right}
use Rattle.pw_plan.proofs.Ordered.{In, Sorted, any_in, each_in, less_itself, less_through, same_lists, sorted_from}
use Rattle.pw_plan.proofs.Rising.{Rises, first_there, rises_of}
use Rattle.pw_cppc.specs.declared.parts.CppcParts.{CppcParts}
use Rattle.pw_cppc.specs.declared.plan.CppcDomain.{CppcDomain}
use Rattle.pw_cppc.specs.Parts.{has_cpc}
use Rattle.pw_cppc.specs.Domains.{AreDomains, IsDomain, domains_of, shown, together, why_unfit}
use Rattle.pw_cppc.proofs.Kept.{member_each}
use Rattle.pw_cppc.proofs.Listing.{are_domains, stands_before}
use Rattle.pw_cppc.proofs.Soundness.{exists, not_after}
use Rattle.pw_base.proofs.Facts.{same_truth}
use Rattle.pw_plan.proofs.OneDomains.{in_member, member_in, above, rises_sorted}

-- # A domain is known by its members

abbrev made : Coord → List ℕ → ℕ → CppcDomain
made coord members unfit = record { coord = coord; members = members; unfit = unfit }

abbrev with_members : List CppcParts → List ℕ → CppcDomain
with_members ps members = made (shown ps (first_of members)).coord members (why_unfit ps (first_of members) members)

is_made : (ps : List CppcParts) (d : CppcDomain) → IsDomain ps d → d ≡ with_members ps d.members
is_made ps d is = ap (λ c. made c d.members d.unfit) is.coord ∙ ap (λ u. made (shown ps (first_of d.members)).coord d.members u) is.unfit

module _ (ps : List CppcParts) where
  -- and these by one of them
  same_domain : (d e : CppcDomain) (p : ℕ) → IsDomain ps d → IsDomain ps e → has_member d.members p ≡ true → has_member e.members p ≡ true → d ≡ e
  same_domain d e p is_d is_e on_d on_e = is_made ps d is_d ∙ ap (with_members ps) members ∙ sym (is_made ps e is_e)
    where
      first : first_of d.members ≡ first_of e.members
      first = let a = not_after ps d e p is_d is_e on_d on_e in let b = not_after ps e d p is_e is_d on_e on_d in omega (arith, a, b)

      joins : (q : ℕ) → q < length ps → has_member d.members q ≡ has_member e.members q
      joins q lt = is_d.joined q lt ∙ ap (λ k. together ps k q) first ∙ sym (is_e.joined q lt)

      same : (q : ℕ) → has_member d.members q ≡ has_member e.members q
      same q = same_truth (has_member d.members q) (has_member e.members q)
          (λ h. sym (joins q (exists ps d is_d q h)) ∙ h) (λ h. joins q (exists ps e is_e q h) ∙ h)

      members : d.members ≡ e.members
      members = same_lists nat_lt less_itself less_through d.members e.members (rises_sorted 0 d.members (rises_of d.members is_d.rising)) (rises_sorted 0 e.members (rises_of e.members is_e.rising))
          (λ z i. in_member e.members z (sym (same z) ∙ member_in d.members z i)) (λ z i. in_member d.members z (same z ∙ member_in e.members z i))

  -- # The list

  sorted : (ds : List CppcDomain) → AreDomains ps ds → Sorted stands_before ds
  sorted ds a = sorted_from stands_before ds (λ i j d less below. lt-ltb _ _ (a.order i j d less below))

  in_other : (ds es : List CppcDomain) → AreDomains ps ds → AreDomains ps es → (d : CppcDomain) → In d ds → In d es
  in_other ds es a b d i =
      let is_d = each_in (IsDomain ps) ds d (recursion_from_All (IsDomain ps) ds a.each) i in
      let p = first_of d.members in
      let on = first_there d.members is_d.some in
      let it = member_each (λ q. (q < length ps) × (has_cpc ps q ≡ true)) d.members (recursion_from_All (λ q. (q < length ps) × (has_cpc ps q ≡ true)) d.members is_d.exist) p on in
      let r = any_in (λ (e : CppcDomain). has_member e.members p ≡ true) es (b.placed p it.0 it.1) in
      let is_r = each_in (IsDomain ps) es r.0 (recursion_from_All (IsDomain ps) es b.each) r.1 in
      subst (λ w. In w es) (sym (same_domain d r.0 p is_d is_r on r.2)) r.1

  through : (d e f : CppcDomain) → stands_before d e ≡ true → stands_before e f ≡ true → stands_before d f ≡ true
  through d e f = less_through (first_of d.members) (first_of e.members) (first_of f.members)

  pub one_list : (ds : List CppcDomain) → AreDomains ps ds → ds ≡ domains_of ps
  one_list ds a = same_lists stands_before (λ d. less_itself (first_of d.members)) through ds (domains_of ps) (sorted ds a) (sorted (domains_of ps) (are_domains ps))
      (in_other ds (domains_of ps) a (are_domains ps)) (in_other (domains_of ps) ds (are_domains ps) a)
