-- There is at most one list of the domains of these processors.
use Rattle.std.proofs.Common.{◌≡◌, ◌<◌, ◌==◌, ◌||◌, ℕ, suc, Bool, true, false, List, [], ◌∷◌, Option, Some, None, refl, sym, ◌∙◌, ap, subst, ◌⊎◌, inl, inr, arith, eqb-true, eq-eqb}
use Rattle.std.specs.Prelude.{nat_lt, unwrap_or}
use Rattle.std.specs.Option.{option_map}
use Rattle.std.specs.List.{AllByRecursion}
use Rattle.std.specs.List.Sorted.{IsStrictlyIncreasing}
use Rattle.std.proofs.lemmas.Bool.{lt-ltb}
use Rattle.std.proofs.lemmas.List.Elements.{recursion_from_All}
use Rattle.acpi_values.specs.declared.dependency.Coord.{Coord}
use Rattle.pw_plan.specs.declared.parts.CpuParts.{CpuParts}
use Rattle.pw_plan.specs.declared.domain.Domain.{Domain}
use Rattle.pw_plan.specs.declared.domain.DomainKind.{DomainKind}
use Rattle.pw_plan.specs.declared.domains.DomainName.{DomainName}
use Rattle.pw_plan.specs.Domains.{AreDomains, HasName, IsDomain, IsOwn, declares, kind_rank, shown, stands_before, why_unfit}
use Rattle.pw_plan.specs.Groups.{first_of, has_member}
use Rattle.pw_plan.proofs.Lists.{or_left, or_right}
use Rattle.pw_plan.proofs.Ordered.{In, Sorted, any_in, each_in, first_itself, first_through, less_itself, less_through, same_lists, sorted_from}
use Rattle.pw_plan.proofs.Rising.{Rises, first_there, rises_of}

-- # The order of domains

pub before_through : (d e f : Domain) → stands_before d e ≡ true → stands_before e f ≡ true → stands_before d f ≡ true
before_through d e f = first_through (kind_rank d.kind) (kind_rank e.kind) (kind_rank f.kind) _ _ _
    (first_through (first_of d.members) (first_of e.members) (first_of f.members) _ _ _
    (first_through (unwrap_or d.number 0) (unwrap_or e.number 0) (unwrap_or f.number 0) _ _ _ (less_through d.index e.index f.index)))

pub before_itself : (d : Domain) → stands_before d d ≡ true → ⊥
before_itself d e = less_itself d.index (first_itself (unwrap_or d.number 0) _ (first_itself (first_of d.members) _ (first_itself (kind_rank d.kind) _ e)))

-- # Numbers that rise are known by who is among them

pub in_member : (xs : List ℕ) (q : ℕ) → has_member xs q ≡ true → In q xs
in_member [] q e = cc
in_member (x ∷ xs) q e = step (x == q) refl e (in_member xs q)
  where
    step : (b : Bool) → (x == q) ≡ b → (b || has_member xs q) ≡ true → (has_member xs q ≡ true → In q xs) → (q ≡ x) ⊎ In q xs
    step true h e later = inl (sym (eqb-true x q h))
    step false h e later = inr (later e)

pub member_in : (xs : List ℕ) (q : ℕ) → In q xs → has_member xs q ≡ true
member_in [] q i = absurd i
member_in (x ∷ xs) q (inl e) = or_left (x == q) (has_member xs q) (eq-eqb x q (sym e))
member_in (x ∷ xs) q (inr i) = or_right (x == q) (has_member xs q) (member_in xs q i)

pub above : (x low : ℕ) (xs : List ℕ) → x < low → Rises low xs → AllByRecursion (λ y. nat_lt x y ≡ true) xs
above x low [] lt r = tt
above x low (y ∷ ys) lt r = let a = r.0 in (lt-ltb x y (omega (arith, a, lt)), above x (suc y) ys (omega (arith, a, lt)) r.1)

pub rises_sorted : (low : ℕ) (xs : List ℕ) → Rises low xs → Sorted nat_lt xs
rises_sorted low [] r = tt
rises_sorted low (x ∷ xs) r = (above x (suc x) xs (omega arith) r.1, rises_sorted (suc x) xs r.1)

same_members : (xs ys : List ℕ) → IsStrictlyIncreasing xs → IsStrictlyIncreasing ys → ((q : ℕ) → has_member xs q ≡ has_member ys q) → xs ≡ ys
same_members xs ys a b h = same_lists nat_lt less_itself less_through xs ys (rises_sorted 0 xs (rises_of xs a)) (rises_sorted 0 ys (rises_of ys b))
    (λ z i. in_member ys z (sym (h z) ∙ member_in xs z i)) (λ z i. in_member xs z (h z ∙ member_in ys z i))

-- # A domain is known by its kind, name and members

abbrev build : DomainKind → Option ℕ → ℕ → Coord → List ℕ → ℕ → Domain
build kind number index coord members unfit = record { kind = kind; number = number; index = index; coord = coord; members = members; unfit = unfit }

abbrev name_by : Option ℕ → ℕ → Option DomainName
name_by number index = option_map (λ n. record { number = n; index = index }) number

abbrev made : List CpuParts → DomainKind → Option ℕ → ℕ → List ℕ → Domain
made ps kind number index members = build kind number index (shown kind (name_by number index) ps (first_of members)).coord members
    (why_unfit kind (name_by number index) ps (first_of members) members)

is_made : (ps : List CpuParts) (d : Domain) → IsDomain ps d → d ≡ made ps d.kind d.number d.index d.members
is_made ps d is = ap (λ c. build d.kind d.number d.index c d.members d.unfit) is.coord
    ∙ ap (λ u. build d.kind d.number d.index (shown d.kind (name_by d.number d.index) ps (first_of d.members)).coord d.members u) is.unfit

same_domain : (ps : List CpuParts) (d e : Domain) → IsDomain ps d → IsDomain ps e → d.kind ≡ e.kind → d.number ≡ e.number → d.index ≡ e.index → d.members ≡ e.members → d ≡ e
same_domain ps d e a b kind number index members = is_made ps d a
    ∙ ap (λ k. made ps k d.number d.index d.members) kind
    ∙ ap (λ n. made ps e.kind n d.index d.members) number
    ∙ ap (λ i. made ps e.kind e.number i d.members) index
    ∙ ap (λ m. made ps e.kind e.number e.index m) members
    ∙ sym (is_made ps e b)

-- # The list

module _ (ps : List CpuParts) (ds es : List Domain) (a : AreDomains ps ds) (b : AreDomains ps es) where
  with_number : (d : Domain) (n : ℕ) → IsDomain ps d → d.number ≡ Some n → In d es
  with_number d n is e =
      let name : DomainName = record { number = n; index = d.index } in
      let p = first_of d.members in
      let declared : declares d.kind name ps p ≡ true = sym (is.declared n p e) ∙ first_there d.members is.some in
      let r = any_in (HasName d.kind name) es (b.named d.kind name p declared) in
      let is_r : IsDomain ps r.0 = each_in (IsDomain ps) es r.0 (recursion_from_All (IsDomain ps) es b.each) r.1 in
      let members : d.members ≡ r.0.members = same_members d.members r.0.members is.rising is_r.rising (λ q. is.declared n q e ∙ moved r.0.kind r.0.index d.kind d.index q n (sym r.2.0) (sym r.2.2)
      ∙ sym (is_r.declared n q r.2.1)) in
      let same : d ≡ r.0 = same_domain ps d r.0 is is_r (sym r.2.0) (e ∙ sym r.2.1) (sym r.2.2) members in
      subst (λ w. In w es) (sym same) r.1
    where
      moved : (k : DomainKind) (i : ℕ) (l : DomainKind) (j q n : ℕ) → l ≡ k → j ≡ i → declares l (record { number = n; index = j }) ps q ≡ declares k (record { number = n; index = i }) ps q
      moved k i l j q n f g = ap (λ m. declares m (record { number = n; index = j }) ps q) f ∙ ap (λ m. declares k (record { number = n; index = m }) ps q) g

  without : (d : Domain) → IsDomain ps d → d.number ≡ None → In d es
  without d is e =
      let u = is.alone e in
      let r = any_in (IsOwn d.kind u.0) es (b.own d.kind u.0 u.2) in
      let is_r : IsDomain ps r.0 = each_in (IsDomain ps) es r.0 (recursion_from_All (IsDomain ps) es b.each) r.1 in
      let v = is_r.alone r.2.1 in
      let same : d ≡ r.0 = same_domain ps d r.0 is is_r (sym r.2.0) (e ∙ sym r.2.1) (u.3 ∙ sym v.3) (u.1 ∙ sym r.2.2) in
      subst (λ w. In w es) (sym same) r.1

  pub in_other : (d : Domain) → In d ds → In d es
  in_other d i = by d.number refl (each_in (IsDomain ps) ds d (recursion_from_All (IsDomain ps) ds a.each) i)
    where
      by : (o : Option ℕ) → d.number ≡ o → IsDomain ps d → In d es
      by None e is = without d is e
      by (Some n) e is = with_number d n is e

pub one_list : (ps : List CpuParts) (ds es : List Domain) → AreDomains ps ds → AreDomains ps es → ds ≡ es
one_list ps ds es a b = same_lists stands_before before_itself before_through ds es (sorted_from stands_before ds a.order) (sorted_from stands_before es b.order)
    (in_other ps ds es a b) (in_other ps es ds b a)
