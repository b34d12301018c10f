-- Why the members of a domain can't be coordinated, test by test.
use Rattle.std.proofs.Common.{◌≡◌, ◌<◌, ◌==◌, ◌&&◌, ◌∷◌, ◌∙◌, ◌||◌, ◌⊎◌, ℕ, Bool, true, false, List, [], length, Option, Some, None, refl, ap, sym, subst, arith, eqb-true, eq-eqb, inl, inr}
use Rattle.std.specs.Prelude.{is_some, nat_le, unwrap_or}
use Rattle.std.specs.List.{list_all}
use Rattle.std.proofs.lemmas.Bool.{le-leb, leb-true, or_cases}
use Rattle.acpi_values.specs.declared.dependency.Coord.{Coord}
use Rattle.acpi_values.specs.declared.dependency.Coord.TheVariants.{SwAll, SwAny, HwAll}
use Rattle.acpi_values.specs.declared.dependency.Dependency.{Dependency}
use Rattle.acpi_values.specs.declared.performance.CpcEntry.{CpcEntry}
use Rattle.acpi_values.specs.declared.performance.CpcEntry.TheVariants.{Number, Register}
use Rattle.acpi_values.specs.declared.register.Register.{Register as register}
use Rattle.pw_plan.specs.Domains.{alone, same_coord}
use Rattle.pw_plan.specs.Groups.{first_of, has_member}
use Rattle.pw_plan.proofs.Lists.{and_both, and_first, and_second, or_left, or_right}
use Rattle.pw_plan.proofs.Rising.{Rises, first_there, rises_of}
use Rattle.pw_cppc.specs.declared.parts.Control.TheVariants as controls
use Rattle.pw_cppc.specs.declared.parts.CppcParts.{CppcParts}
use Rattle.pw_cppc.specs.declared.plan.CppcDomain.{CppcDomain}
use Rattle.pw_cppc.specs.Domains.{IsDomain, same_domain, same_range, shown, unfit_by, why_unfit}
use Rattle.pw_cppc.specs.Parts.{entry_of, has_cpc, highest_of, is_number, is_ranged, lowest_of, number_in, parts_in, register_of}
use Rattle.pw_cppc.specs.Reasons.{Agree, IsAlone, HasRange, HaveOneRange, HaveRanges, HaveRegisters, IsReason, ShowOneNumber, ShowOneType, ShowTheirNumber}
use Rattle.pw_cppc.specs.Reasons.{all_agree, number_is_wrong, numbers_differ, range_is_none, ranges_differ, register_is_none, types_differ}
use Rattle.pw_cppc.proofs.Kept.{member_all}
use Rattle.pw_cppc.proofs.Soundness.{exists}

-- # Tests

coord_same : (a b : Coord) → same_coord a b ≡ true → a ≡ b
coord_same SwAll SwAll e = refl
coord_same SwAny SwAny e = refl
coord_same HwAll HwAll e = refl
coord_same SwAll SwAny e = cc
coord_same SwAll HwAll e = cc
coord_same SwAny SwAll e = cc
coord_same SwAny HwAll e = cc
coord_same HwAll SwAll e = cc
coord_same HwAll SwAny e = cc

coord_itself : (a : Coord) → same_coord a a ≡ true
coord_itself SwAll = refl
coord_itself SwAny = refl
coord_itself HwAll = refl

same_coords : (a b : Coord) → a ≡ b → same_coord a b ≡ true
same_coords a b e = rw e (coord_itself b)

all_members : (t : ℕ → Bool) (ms : List ℕ) → ((q : ℕ) → has_member ms q ≡ true → t q ≡ true) → list_all t ms ≡ true
all_members t [] h = refl
all_members t (m ∷ ms) h = and_both (t m) (list_all t ms) (h m (or_left (m == m) (has_member ms m) (eq-eqb m m refl))) (all_members t ms (λ q e. h q (or_right (m == q) (has_member ms q) e)))

number_is : (o : Option CpcEntry) → is_number o ≡ true → o ≡ Some (Number (number_in o))
number_is None e = cc
number_is (Some (Number n)) e = refl
number_is (Some (Register r)) e = cc

register_there : (o : Option register) → is_some o ≡ true → (r : register) × (o ≡ Some r)
register_there None e = cc
register_there (Some r) e = (r, refl)

-- # Ranges

range_of : (c : CppcParts) → is_ranged c ≡ true → HasRange c (lowest_of c) (highest_of c)
range_of c e =
    let a = is_number (entry_of c.cpc 3) in
    let b = is_number (entry_of c.cpc 0) in
    let both = and_first (a && b) (nat_le (lowest_of c) (highest_of c)) e in
    record {
      from = number_is (entry_of c.cpc 3) (and_first a b both);
      to = number_is (entry_of c.cpc 0) (and_second a b both);
      ordered = leb-true (lowest_of c) (highest_of c) (and_second (a && b) (nat_le (lowest_of c) (highest_of c)) e);
    }

lowest_is : (c : CppcParts) (low high : ℕ) → HasRange c low high → lowest_of c ≡ low
lowest_is c low high h = ap number_in h.from

highest_is : (c : CppcParts) (low high : ℕ) → HasRange c low high → highest_of c ≡ high
highest_is c low high h = ap number_in h.to

has_range : (c : CppcParts) (low high : ℕ) → HasRange c low high → is_ranged c ≡ true
has_range c low high h =
    let le = h.ordered in
    let a = lowest_is c low high h in
    let b = highest_is c low high h in
    and_both (is_number (entry_of c.cpc 3) && is_number (entry_of c.cpc 0)) (nat_le (lowest_of c) (highest_of c))
    (and_both (is_number (entry_of c.cpc 3)) (is_number (entry_of c.cpc 0)) (ap is_number h.from) (ap is_number h.to))
    (le-leb (lowest_of c) (highest_of c) (omega (arith, le, a, b)))

-- # All tests of a domain's members

module _ (ps : List CppcParts) (ms : List ℕ) (some : 0 < length ms) where
  abbrev lead : ℕ
  lead = first_of ms

  leads : has_member ms lead ≡ true
  leads = first_there ms some

  abbrev type_test : ℕ → Bool
  type_test p = same_coord (shown ps p).coord (shown ps lead).coord

  abbrev number_test : ℕ → Bool
  number_test p = (shown ps p).processors == (shown ps lead).processors

  abbrev range_test : ℕ → Bool
  range_test p = is_ranged (parts_in ps p)

  abbrev same_test : ℕ → Bool
  same_test p = same_range (parts_in ps p) (parts_in ps lead)

  abbrev register_test : ℕ → Bool
  register_test p = is_some (register_of controls.Desired (parts_in ps p))

  types_from : list_all type_test ms ≡ true → ShowOneType ps ms
  types_from e p q a b =
      coord_same (shown ps p).coord (shown ps lead).coord (member_all type_test ms e p a)
      ∙ sym (coord_same (shown ps q).coord (shown ps lead).coord (member_all type_test ms e q b))

  types_to : ShowOneType ps ms → list_all type_test ms ≡ true
  types_to h = all_members type_test ms (λ q e. same_coords (shown ps q).coord (shown ps lead).coord (h q lead e leads))

  numbers_from : list_all number_test ms ≡ true → ShowOneNumber ps ms
  numbers_from e p q a b =
      eqb-true (shown ps p).processors (shown ps lead).processors (member_all number_test ms e p a)
      ∙ sym (eqb-true (shown ps q).processors (shown ps lead).processors (member_all number_test ms e q b))

  numbers_to : ShowOneNumber ps ms → list_all number_test ms ≡ true
  numbers_to h = all_members number_test ms (λ q e. eq-eqb (shown ps q).processors (shown ps lead).processors (h q lead e leads))

  count_from : ShowOneNumber ps ms → ((shown ps lead).processors == length ms) ≡ true → ShowTheirNumber ps ms
  count_from same e p a = same p lead a leads ∙ eqb-true (shown ps lead).processors (length ms) e

  count_to : ShowTheirNumber ps ms → ((shown ps lead).processors == length ms) ≡ true
  count_to h = eq-eqb (shown ps lead).processors (length ms) (h lead leads)

  ranges_from : list_all range_test ms ≡ true → HaveRanges ps ms
  ranges_from e p a = (lowest_of (parts_in ps p), highest_of (parts_in ps p), range_of (parts_in ps p) (member_all range_test ms e p a))

  ranges_to : HaveRanges ps ms → list_all range_test ms ≡ true
  ranges_to h = all_members range_test ms (λ q e. let r = h q e in has_range (parts_in ps q) r.0 r.1 r.2)

  one_from : list_all range_test ms ≡ true → list_all same_test ms ≡ true → HaveOneRange ps ms
  one_from e f = (lowest_of (parts_in ps lead), highest_of (parts_in ps lead), each)
    where
      each : (p : ℕ) → has_member ms p ≡ true → HasRange (parts_in ps p) (lowest_of (parts_in ps lead)) (highest_of (parts_in ps lead))
      each p a =
          let own = range_of (parts_in ps p) (member_all range_test ms e p a) in
          let same = member_all same_test ms f p a in
          let low = eqb-true (lowest_of (parts_in ps p)) (lowest_of (parts_in ps lead)) (and_first (lowest_of (parts_in ps p) == lowest_of (parts_in ps lead)) (highest_of (parts_in ps p) ==
          highest_of (parts_in ps lead)) same) in
          let high = eqb-true (highest_of (parts_in ps p)) (highest_of (parts_in ps lead)) (and_second (lowest_of (parts_in ps p) == lowest_of (parts_in ps lead)) (highest_of (parts_in ps p) ==
          highest_of (parts_in ps lead)) same) in
          subst (HasRange (parts_in ps p) (lowest_of (parts_in ps lead))) high (subst (λ n. HasRange (parts_in ps p) n (highest_of (parts_in ps p))) low own)

  one_to : HaveOneRange ps ms → list_all same_test ms ≡ true
  one_to h = all_members same_test ms (λ q e.
      let a = h.2 q e in
      let b = h.2 lead leads in
      and_both (lowest_of (parts_in ps q) == lowest_of (parts_in ps lead)) (highest_of (parts_in ps q) == highest_of (parts_in ps lead))
      (eq-eqb (lowest_of (parts_in ps q)) (lowest_of (parts_in ps lead)) (lowest_is (parts_in ps q) h.0 h.1 a ∙ sym (lowest_is (parts_in ps lead) h.0 h.1 b)))
      (eq-eqb (highest_of (parts_in ps q)) (highest_of (parts_in ps lead)) (highest_is (parts_in ps q) h.0 h.1 a ∙ sym (highest_is (parts_in ps lead) h.0 h.1 b))))

  registers_from : list_all register_test ms ≡ true → HaveRegisters ps ms
  registers_from e p a = register_there (register_of controls.Desired (parts_in ps p)) (member_all register_test ms e p a)

  registers_to : HaveRegisters ps ms → list_all register_test ms ≡ true
  registers_to h = all_members register_test ms (λ q e. let r = h q e in ap is_some r.1)

  not_both : (b : Bool) → b ≡ false → b ≡ true → ⊥
  not_both b e f = cc

  agree : list_all type_test ms ≡ true → list_all number_test ms ≡ true → ((shown ps lead).processors == length ms) ≡ true → Agree ps ms
  agree x y z = record { types = types_from x; numbers = numbers_from y; count = count_from (numbers_from y) z }

  decided : (a b c d e f : Bool) → list_all type_test ms ≡ a → list_all number_test ms ≡ b → ((shown ps lead).processors == length ms) ≡ c
      → list_all range_test ms ≡ d → list_all same_test ms ≡ e → list_all register_test ms ≡ f → IsReason ps ms (unfit_by a b c d e f)
  decided false b c d e f x y z u v w = types_differ (λ h. not_both (list_all type_test ms) x (types_to h))
  decided true false c d e f x y z u v w = numbers_differ (types_from x) (λ h. not_both (list_all number_test ms) y (numbers_to h))
  decided true true false d e f x y z u v w = number_is_wrong (types_from x) (numbers_from y) (λ h. not_both ((shown ps lead).processors == length ms) z (count_to h))
  decided true true true false e f x y z u v w = range_is_none (agree x y z) (λ h. not_both (list_all range_test ms) u (ranges_to h))
  decided true true true true false f x y z u v w = ranges_differ (agree x y z) (ranges_from u) (λ h. not_both (list_all same_test ms) v (one_to h))
  decided true true true true true false x y z u v w = register_is_none (agree x y z) (one_from u v) (λ h. not_both (list_all register_test ms) w (registers_to h))
  decided true true true true true true x y z u v w = all_agree (agree x y z) (one_from u v) (registers_from w)

  pub is_reason : IsReason ps ms (why_unfit ps lead ms)
  is_reason = decided (list_all type_test ms) (list_all number_test ms) ((shown ps lead).processors == length ms) (list_all range_test ms) (list_all same_test ms) (list_all register_test ms)
      refl refl refl refl refl refl

pub domain_reason : (ps : List CppcParts) (d : CppcDomain) → IsDomain ps d → IsReason ps d.members d.unfit
domain_reason ps d is = subst (IsReason ps d.members) (sym is.unfit) (is_reason ps d.members is.some)

-- # Who declares nothing

same_none : (d e : Option Dependency) → d ≡ None → same_domain d e ≡ false
same_none None e i = refl
same_none (Some d) e i = cc

none_same : (d e : Option Dependency) → e ≡ None → same_domain d e ≡ false
none_same None e i = refl
none_same (Some d) None i = refl
none_same (Some d) (Some e) i = cc

equal_or : (m n : ℕ) (b : Bool) → ((m == n) || b) ≡ true → b ≡ false → m ≡ n
equal_or m n b e f = elim (or_cases (m == n) b e) [
  | inl same ↦ eqb-true m n same
  | inr other ↦ let clash : true ≡ false = sym other ∙ f in cc
]

one_only : (low : ℕ) (ms : List ℕ) (p : ℕ) → Rises low ms → has_member ms p ≡ true → ((q : ℕ) → has_member ms q ≡ true → q ≡ p) → ms ≡ p ∷ []
one_only low [] p r e h = cc
one_only low (x ∷ []) p r e h = ap (λ k. k ∷ []) (h x (or_left (x == x) false (eq-eqb x x refl)))
one_only low (x ∷ y ∷ ys) p r e h =
    let a = h x (or_left (x == x) (has_member (y ∷ ys) x) (eq-eqb x x refl)) in
    let b = h y (or_right (x == y) (has_member (y ∷ ys) y) (or_left (y == y) (has_member ys y) (eq-eqb y y refl))) in
    let c = r.1.0 in
    absurd (omega (arith, a, b, c))

declared_right : (a b c d e f : Bool) → a ≡ true → b ≡ true → c ≡ true → (unfit_by a b c d e f ≡ 0) ⊎ (3 < unfit_by a b c d e f)
declared_right false b c d e f x y z = cc
declared_right true false c d e f x y z = cc
declared_right true true false d e f x y z = cc
declared_right true true true false e f x y z = inr (omega arith)
declared_right true true true true false f x y z = inr (omega arith)
declared_right true true true true true false x y z = inr (omega arith)
declared_right true true true true true true x y z = inl refl

module _ (ps : List CppcParts) (d : CppcDomain) (is : IsDomain ps d) (p : ℕ) (none : (parts_in ps p).dependency ≡ None) (on : has_member d.members p ≡ true) where
  leader_is : first_of d.members ≡ p
  leader_is =
      let f = first_of d.members in
      equal_or f p (same_domain (parts_in ps f).dependency (parts_in ps p).dependency)
      (and_second (has_cpc ps f && has_cpc ps p) ((f == p) || same_domain (parts_in ps f).dependency (parts_in ps p).dependency) (sym (is.joined p (exists ps d is p on)) ∙ on))
      (none_same (parts_in ps f).dependency (parts_in ps p).dependency none)

  each_is : (q : ℕ) → has_member d.members q ≡ true → q ≡ p
  each_is q e =
      let f = first_of d.members in
      sym (equal_or f q (same_domain (parts_in ps f).dependency (parts_in ps q).dependency)
      (and_second (has_cpc ps f && has_cpc ps q) ((f == q) || same_domain (parts_in ps f).dependency (parts_in ps q).dependency) (sym (is.joined q (exists ps d is q e)) ∙ e))
      (same_none (parts_in ps f).dependency (parts_in ps q).dependency (ap (λ k. (parts_in ps k).dependency) leader_is ∙ none)))
      ∙ leader_is

  members_are : d.members ≡ p ∷ []
  members_are = one_only 0 d.members p (rises_of d.members is.rising) on each_is

  shows : (shown ps p).coord ≡ SwAll
  unfolding alone
  shows = ap (λ (o : Option Dependency). (unwrap_or o alone).coord) none

  counts : (shown ps p).processors ≡ 1
  unfolding alone
  counts = ap (λ (o : Option Dependency). (unwrap_or o alone).processors) none

  unfit_right : (why_unfit ps (first_of d.members) d.members ≡ 0) ⊎ (3 < why_unfit ps (first_of d.members) d.members)
  unfit_right = declared_right
      (list_all (λ q. same_coord (shown ps q).coord (shown ps (first_of d.members)).coord) d.members)
      (list_all (λ q. (shown ps q).processors == (shown ps (first_of d.members)).processors) d.members)
      ((shown ps (first_of d.members)).processors == length d.members)
      (list_all (λ q. is_ranged (parts_in ps q)) d.members)
      (list_all (λ q. same_range (parts_in ps q) (parts_in ps (first_of d.members))) d.members)
      (list_all (λ q. is_some (register_of controls.Desired (parts_in ps q))) d.members)
      (types_to ps d.members is.some (λ a b i j. ap (λ k. (shown ps k).coord) (each_is a i ∙ sym (each_is b j))))
      (numbers_to ps d.members is.some (λ a b i j. ap (λ k. (shown ps k).processors) (each_is a i ∙ sym (each_is b j))))
      (count_to ps d.members is.some (λ a i. ap (λ k. (shown ps k).processors) (each_is a i) ∙ counts ∙ sym (ap length members_are)))

  pub is_alone : IsAlone d p
  is_alone = record {
    members = members_are;
    coord = is.coord ∙ ap (λ k. (shown ps k).coord) leader_is ∙ shows;
    undeclared = subst (λ n. (n ≡ 0) ⊎ (3 < n)) (sym is.unfit) unfit_right;
  }
