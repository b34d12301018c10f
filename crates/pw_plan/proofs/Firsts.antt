-- What is found first stands first.
use Rattle.std.proofs.Common.{◌≡◌, ◌≢◌, ◌<◌, ◌≤◌, ◌==◌, not, ℕ, Bool, true, false, cond, List, [], map, length, get_or, Some, None, refl, ap, sym, ◌∙◌, arith, inl, inr}
use Rattle.std.specs.Prelude.{nat_lt, MatchOption}
use Rattle.std.specs.Option.{option_map}
use Rattle.std.specs.List.{position, position_or_len}
use Rattle.std.proofs.lemmas.Bool.{cases_lt}
use Rattle.std.proofs.lemmas.Bool.Decides.{nat_tests}
use Rattle.std.proofs.lemmas.List.{get_or-map, length-map}
use Rattle.std.proofs.lemmas.List.Sums.{fails_before_first, passes_at_first, prefix_len-le-length}
use Rattle.pw_plan.specs.declared.domain.Domain.{Domain}
use Rattle.pw_plan.specs.declared.domain.DomainKind.{DomainKind}
use Rattle.pw_plan.specs.declared.domain.DomainKind.TheVariants.{Perf, Throttle, Idle}
use Rattle.pw_plan.specs.declared.domain.Group.{Group}
use Rattle.pw_plan.specs.declared.index.CpuIndex.{CpuIndex}
use Rattle.pw_plan.specs.declared.index.Membership.{Membership}
use Rattle.pw_plan.specs.declared.plan.Plan.{Plan}
use Rattle.pw_plan.specs.Covering.{covers, same_kind}
use Rattle.pw_plan.specs.Firsts.{HasInKind, IsIndexOf, IsMemberAt, IsPlaceOfFirst, IsUnfitOf, ShowsAt}
use Rattle.pw_plan.specs.Groups.{has_member, no_domain, no_group}
use Rattle.pw_plan.specs.Index.{group_membership_in, is_unfit, member_place, membership_in}
use Rattle.pw_plan.specs.Places.{domain_of, group_of, unfit_of}
use Rattle.pw_plan.proofs.Found.{found, passes}
use Rattle.pw_plan.proofs.Lists.{and_both, and_first, and_second}
use Rattle.pw_plan.proofs.Memberships.{covers_has, index_is, unfit_has}

-- # Kinds

pub same_from : (j k : DomainKind) → same_kind j k ≡ true → j ≡ k
same_from Perf Perf e = refl
same_from Throttle Throttle e = refl
same_from Idle Idle e = refl
same_from Perf Throttle e = cc
same_from Perf Idle e = cc
same_from Throttle Perf e = cc
same_from Throttle Idle e = cc
same_from Idle Perf e = cc
same_from Idle Throttle e = cc

pub same_by : (k : DomainKind) → same_kind k k ≡ true
same_by Perf = refl
same_by Throttle = refl
same_by Idle = refl

-- # The first

module _ {X : Type 0} (t : X → Bool) (Q : X → Type 0) (nothing : X) (from : (x : X) → t x ≡ true → Q x) (by : (x : X) → Q x → t x ≡ true) (xs : List X) where
  pub place_of_first : IsPlaceOfFirst Q nothing xs (position_or_len t xs)
  place_of_first = record {
    within = prefix_len-le-length (λ x. not (t x)) xs;
    holds = λ lt. from (get_or xs (position_or_len t xs) nothing) (passes_at_first t xs nothing lt);
    first = λ j lt q.
        let fails : t (get_or xs j nothing) ≡ false = fails_before_first t xs j nothing lt in
        let holds : t (get_or xs j nothing) ≡ true = by (get_or xs j nothing) q in
        let clash : true ≡ false = sym holds ∙ fails in
        cc;
  }

-- it stands at one place alone
pub one_first : {X : Type 0} (Q : X → Type 0) (nothing : X) (xs : List X) (j k : ℕ) → IsPlaceOfFirst Q nothing xs j → IsPlaceOfFirst Q nothing xs k → j ≡ k
one_first Q nothing xs j k a b = elim (cases_lt j k) [
  | inl lt ↦ let w = b.within in absurd (b.first j lt (a.holds (omega (arith, w, lt))))
  | inr ge ↦ elim (cases_lt k j) [
    | inl lt ↦ let w = a.within in absurd (a.first k lt (b.holds (omega (arith, w, lt))))
    | inr le ↦ omega (arith, ge, le)
  ]
]

-- # Of a plan

pub kind_from : (kind : DomainKind) (p : ℕ) (d : Domain) → covers kind p d ≡ true → HasInKind kind p d
kind_from kind p d e = record {
  of_kind = same_from d.kind kind (and_first (same_kind d.kind kind) (has_member d.members p) e);
  member = and_second (same_kind d.kind kind) (has_member d.members p) e;
}

pub kind_by : (kind : DomainKind) (p : ℕ) (d : Domain) → HasInKind kind p d → covers kind p d ≡ true
kind_by kind p d h = and_both (same_kind d.kind kind) (has_member d.members p) (ap (λ k. same_kind k kind) h.of_kind ∙ same_by kind) h.member

pub unfit_from : (p : ℕ) (d : Domain) → is_unfit p d ≡ true → IsUnfitOf p d
unfit_from p d e = record {
  idle = kind_from Idle p d (and_first (covers Idle p d) (not (d.unfit == 0)) e);
  unfit = differ d.unfit (and_second (covers Idle p d) (not (d.unfit == 0)) e);
}
  where
    differ : (n : ℕ) → not (n == 0) ≡ true → n ≢ 0
    differ n e = grind (arith, nat_tests)

pub unfit_by : (p : ℕ) (d : Domain) → IsUnfitOf p d → is_unfit p d ≡ true
unfit_by p d h = and_both (covers Idle p d) (not (d.unfit == 0)) (kind_by Idle p d h.idle) (differ d.unfit h.unfit)
  where
    differ : (n : ℕ) → n ≢ 0 → not (n == 0) ≡ true
    differ n ne = grind (arith, nat_tests)

pub domain_place : (P : Plan) (kind : DomainKind) (p : ℕ) → IsPlaceOfFirst (HasInKind kind p) no_domain P.domains (domain_of P kind p)
domain_place P kind p = place_of_first (covers kind p) (HasInKind kind p) no_domain (kind_from kind p) (kind_by kind p) P.domains

pub unfit_place : (P : Plan) (p : ℕ) → IsPlaceOfFirst (IsUnfitOf p) no_domain P.domains (unfit_of P p)
unfit_place P p = place_of_first (is_unfit p) (IsUnfitOf p) no_domain (unfit_from p) (unfit_by p) P.domains

pub group_place : (P : Plan) (p : ℕ) → IsPlaceOfFirst (λ (g : Group). has_member g.members p ≡ true) no_group P.groups (group_of P p)
group_place P p = place_of_first (λ (g : Group). has_member g.members p) (λ (g : Group). has_member g.members p ≡ true) no_group (λ g e. e) (λ g e. e) P.groups

-- # The index

equal_to : (n p : ℕ) → (n == p) ≡ true → n ≡ p
equal_to n p e = grind (arith, nat_tests)

module _ {X : Type 0} (t : X → Bool) (members : X → List ℕ) (nothing : X) (p : ℕ) (has : (x : X) → t x ≡ true → has_member (members x) p ≡ true) (xs : List X) where
  shows_some : (k : ℕ) → k < length xs → t (get_or xs k nothing) ≡ true → IsMemberAt (map members xs) p k (record { place = k; member = member_place (members (get_or xs k nothing)) p })
  shows_some k lt e =
      let ms = members (get_or xs k nothing) in
      let on : has_member ms p ≡ true = has (get_or xs k nothing) e in
      let there : get_or (map members xs) k [] ≡ ms = get_or-map members xs k nothing [] lt in
      record {
        place = refl;
        within = rw there (found (λ q. q == p) ms on);
        member = rw there (equal_to (get_or ms (member_place ms p) 0) p (passes (λ q. q == p) ms 0 (found (λ q. q == p) ms on)));
      }

  pub shows_at : (f : ℕ → Membership) → ((k : ℕ) → f k ≡ record { place = k; member = member_place (members (get_or xs k nothing)) p })
      → ShowsAt (map members xs) p (position_or_len t xs) (option_map f (position t xs))
  shows_at f is = by (nat_lt (position_or_len t xs) (length xs)) refl
    where
      by : (b : Bool) → nat_lt (position_or_len t xs) (length xs) ≡ b
          → MatchOption (option_map f (cond b (Some (position_or_len t xs)) None)) (position_or_len t xs ≡ length (map members xs)) (IsMemberAt (map members xs) p (position_or_len t xs))
      by true e =
          let lt : position_or_len t xs < length xs = grind (arith, nat_tests) in
          rw (is (position_or_len t xs)) (shows_some (position_or_len t xs) lt (passes t xs nothing lt))
      by false e =
          let le = prefix_len-le-length (λ x. not (t x)) xs in
          let ge : length xs ≤ position_or_len t xs = grind (arith, nat_tests) in
          rw length-map (omega (arith, le, ge))

pub index_shows : (P : Plan) (p : ℕ) (i : CpuIndex) → p < length P.cpus → IsIndexOf P p (get_or P.cpu_index p i)
index_shows P p i lt = rw (index_is P p i lt) (record {
  perf = shows_at (covers Perf p) (λ (d : Domain). d.members) no_domain p (covers_has Perf p) P.domains (membership_in P.domains p) (λ k. refl);
  throttle = shows_at (covers Throttle p) (λ (d : Domain). d.members) no_domain p (covers_has Throttle p) P.domains (membership_in P.domains p) (λ k. refl);
  unfit = shows_at (is_unfit p) (λ (d : Domain). d.members) no_domain p (unfit_has p) P.domains (membership_in P.domains p) (λ k. refl);
  group = shows_at (λ (g : Group). has_member g.members p) (λ (g : Group). g.members) no_group p (λ g e. e) P.groups (group_membership_in P.groups p) (λ k. refl);
})
