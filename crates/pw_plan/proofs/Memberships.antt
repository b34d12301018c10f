-- What a plan's index tells of its lists.
use Rattle.std.proofs.Common.{◌≡◌, ◌<◌, ◌≤◌, ◌+◌, ◌==◌, not, ℕ, suc, zero, Bool, true, false, cond, List, [], ◌∷◌, map, length, get_or, Option, Some, None, refl, ap, sym, ◌∙◌, subst, arith, zero-add, inl, inr}
use Rattle.std.specs.Prelude.{nat_lt, IfSome, MatchOption}
use Rattle.std.specs.Option.{option_map}
use Rattle.std.specs.List.{list_all, list_any, position, position_or_len, slice_get}
use Rattle.std.proofs.lemmas.Bool.{cases_lt}
use Rattle.std.proofs.lemmas.Bool.Decides.{nat_tests}
use Rattle.std.proofs.lemmas.List.Elements.{recursion_from_All}
use Rattle.std.proofs.lemmas.List.FromFn.{get_or-map-range_with_len, length-map-range_with_len}
use Rattle.std.proofs.lemmas.List.Sums.{prefix_len-le-length}
use Rattle.pw_plan.specs.declared.domain.Child.{Child}
use Rattle.pw_plan.specs.declared.domain.Child.TheVariants.{Cpu, Container}
use Rattle.pw_plan.specs.declared.domain.Domain.{Domain}
use Rattle.pw_plan.specs.declared.domain.DomainKind.{DomainKind}
use Rattle.pw_plan.specs.declared.domain.DomainKind.TheVariants.{Idle}
use Rattle.pw_plan.specs.declared.domain.Group.{Group}
use Rattle.pw_plan.specs.declared.index.CpuIndex.{CpuIndex}
use Rattle.pw_plan.specs.declared.index.Membership.{Membership}
use Rattle.pw_plan.specs.declared.plan.Plan.{Plan}
use Rattle.pw_plan.specs.Groups.{domain_in, has_member, no_domain, no_group}
use Rattle.pw_plan.specs.Index.{IsPlaceIn, child_place, container_place, cpu_index, first_membership, group_membership, group_membership_in, idle_memberships, is_unfit, member_place, membership_in}
use Rattle.pw_plan.specs.Orderly.{is_same}
use Rattle.pw_plan.specs.Places.{children_at, domain_at, group_at, group_of, parent_of, IsChildPlace, IsIn}
use Rattle.pw_plan.specs.Covering.{covers, same_kind}
use Rattle.pw_plan.specs.Tree.{places_from}
use Rattle.pw_plan.proofs.Among.{all_among, any_among}
use Rattle.pw_plan.proofs.Found.{found, passes, position-here, position-later}
use Rattle.pw_plan.proofs.Grouping.{member_bound}
use Rattle.pw_plan.proofs.Lists.{and_first, and_second}
use Rattle.pw_plan.proofs.Orders.{same_child}

-- # The index of a processor

pub index_size : (P : Plan) → length P.cpu_index ≡ length P.cpus
index_size P = ap length P.indexed.cpus ∙ length-map-range_with_len (cpu_index P.children P.cpus P.domains P.groups) 0 (length P.cpus)

pub index_is : (P : Plan) (p : ℕ) (d : CpuIndex) → p < length P.cpus → get_or P.cpu_index p d ≡ cpu_index P.children P.cpus P.domains P.groups p
index_is P p d lt =
    ap (λ xs. get_or xs p d) P.indexed.cpus
    ∙ get_or-map-range_with_len (cpu_index P.children P.cpus P.domains P.groups) 0 (length P.cpus) p p d lt (zero-add p)

-- # What a place found tells

pub place_le : {X : Type 0} (t : X → Bool) (xs : List X) → position_or_len t xs ≤ length xs
place_le t xs = prefix_len-le-length (λ x. not (t x)) xs

module _ {X : Type 0} (t : X → Bool) (xs : List X) (f : ℕ → Membership) (at : (k : ℕ) → (f k).place ≡ k) where
  pub membership_is : (r : Option Membership) → r ≡ option_map f (position t xs) → MatchOption r (position_or_len t xs ≡ length xs) (IsPlaceIn xs (position_or_len t xs))
  membership_is r e = subst (λ s. MatchOption s (position_or_len t xs ≡ length xs) (IsPlaceIn xs (position_or_len t xs))) (sym e) (by (nat_lt (position_or_len t xs) (length xs)) refl)
    where
      by : (b : Bool) → nat_lt (position_or_len t xs) (length xs) ≡ b
          → MatchOption (option_map f (cond b (Some (position_or_len t xs)) None)) (position_or_len t xs ≡ length xs) (IsPlaceIn xs (position_or_len t xs))
      by true h = (at (position_or_len t xs), grind (arith, nat_tests))
      by false h = let le = place_le t xs in let ge : length xs ≤ position_or_len t xs = grind (arith, nat_tests) in omega (arith, le, ge)

pub member_is : (ds : List Domain) (p : ℕ) (t : Domain → Bool) (r : Option Membership) → r ≡ first_membership t ds p → IfSome r (λ s. s.member ≡ member_place (domain_in ds s.place).members p)
member_is ds p t r e = subst (λ s. IfSome s (λ s. s.member ≡ member_place (domain_in ds s.place).members p)) (sym e) (by (nat_lt (position_or_len t ds) (length ds)))
  where
    by : (b : Bool) → IfSome (option_map (membership_in ds p) (cond b (Some (position_or_len t ds)) None)) (λ s. s.member ≡ member_place (domain_in ds s.place).members p)
    by true = refl
    by false = tt

pub group_member_is : (gs : List Group) (p : ℕ) (r : Option Membership) → r ≡ group_membership gs p → IfSome r (λ s. s.member ≡ member_place (get_or gs s.place no_group).members p)
group_member_is gs p r e = subst (λ s. IfSome s (λ s. s.member ≡ member_place (get_or gs s.place no_group).members p)) (sym e) (by (nat_lt k (length gs)))
  where
    k : ℕ
    k = position_or_len (λ (g : Group). has_member g.members p) gs

    by : (b : Bool) → IfSome (option_map (group_membership_in gs p) (cond b (Some k) None)) (λ s. s.member ≡ member_place (get_or gs s.place no_group).members p)
    by true = refl
    by false = tt

pub get_some : {X : Type 0} (xs : List X) (p : ℕ) (d : X) → p < length xs → slice_get xs p ≡ Some (get_or xs p d)
get_some [] p d lt = absurd (omega arith)
get_some (x ∷ xs) zero d lt = refl
get_some (x ∷ xs) (suc p) d lt = get_some xs p d (omega arith)

pub get_none : {X : Type 0} (xs : List X) (p : ℕ) → length xs ≤ p → slice_get xs p ≡ None
get_none [] p le = refl
get_none (x ∷ xs) zero le = absurd (omega arith)
get_none (x ∷ xs) (suc p) le = get_none xs p (omega arith)

-- what is found is the processor's index
pub index_some : (P : Plan) (p : ℕ) (i : CpuIndex) → Some i ≡ slice_get P.cpu_index p → i ≡ cpu_index P.children P.cpus P.domains P.groups p
index_some P p i e = elim (cases_lt p (length P.cpus)) [
  | inl lt ↦
      let size = index_size P in
      let is : slice_get P.cpu_index p ≡ Some (cpu_index P.children P.cpus P.domains P.groups p) =
      get_some P.cpu_index p i (omega (arith, size, lt)) ∙ ap (λ x. Some x) (index_is P p i lt) in
      cc
  | inr le ↦
      let size = index_size P in
      let is : slice_get P.cpu_index p ≡ None = get_none P.cpu_index p (omega (arith, size, le)) in
      cc
]

-- where nothing is found there is no such processor
pub index_none : (P : Plan) (p : ℕ) → None ≡ slice_get P.cpu_index p → length P.cpus ≤ p
index_none P p e = elim (cases_lt p (length P.cpus)) [
  | inl lt ↦
      let size = index_size P in
      let is : slice_get P.cpu_index p ≡ Some (cpu_index P.children P.cpus P.domains P.groups p) =
      get_some P.cpu_index p (cpu_index P.children P.cpus P.domains P.groups p) (omega (arith, size, lt)) ∙ ap (λ x. Some x) (index_is P p (cpu_index P.children P.cpus P.domains P.groups p) lt) in
      cc
  | inr le ↦ le
]

-- # Who is no processor of the plan

pub no_domain_of : (P : Plan) (p : ℕ) → length P.cpus ≤ p → (t : Domain → Bool) → ((d : Domain) → t d ≡ true → has_member d.members p ≡ true)
    → position_or_len t P.domains ≡ length P.domains
no_domain_of P p le t h = elim (cases_lt (position_or_len t P.domains) (length P.domains)) [
  | inl lt ↦
      let q = position_or_len t P.domains in
      let on = h (domain_in P.domains q) (passes t P.domains no_domain lt) in
      let exist = recursion_from_All (λ q. q < length P.cpus) (domain_in P.domains q).members (P.sound.domains.members q no_domain lt) in
      let below = member_bound (length P.cpus) (domain_in P.domains q).members exist p on in
      absurd (omega (arith, le, below))
  | inr ge ↦ let b = place_le t P.domains in omega (arith, ge, b)
]

pub no_group_of : (P : Plan) (p : ℕ) → length P.cpus ≤ p → group_of P p ≡ length P.groups
no_group_of P p le = elim (cases_lt (group_of P p) (length P.groups)) [
  | inl lt ↦
      let t = λ (g : Group). has_member g.members p in
      let on = passes t P.groups no_group lt in
      let exist = recursion_from_All (λ q. q < length P.cpus) (group_at P (group_of P p)).members (P.sound.groups.members (group_of P p) no_group lt) in
      let below = member_bound (length P.cpus) (group_at P (group_of P p)).members exist p on in
      absurd (omega (arith, le, below))
  | inr ge ↦ let b = place_le (λ (g : Group). has_member g.members p) P.groups in omega (arith, ge, b)
]

pub covers_has : (kind : DomainKind) (p : ℕ) (d : Domain) → covers kind p d ≡ true → has_member d.members p ≡ true
covers_has kind p d e = and_second (same_kind d.kind kind) (has_member d.members p) e

pub unfit_has : (p : ℕ) (d : Domain) → is_unfit p d ≡ true → has_member d.members p ≡ true
unfit_has p d e = covers_has Idle p d (and_first (covers Idle p d) (not (d.unfit == 0)) e)

no_places : {X : Type 0} (t : X → Bool) (k : ℕ) (xs : List X) → position_or_len t xs ≡ length xs → places_from t k xs ≡ []
no_places t k [] e = refl
no_places t k (x ∷ xs) e = by (no_places t (k + 1) xs) (t x) refl
  where
    by : (position_or_len t xs ≡ length xs → places_from t (k + 1) xs ≡ []) → (b : Bool) → t x ≡ b
        → cond (t x) (k ∷ places_from t (k + 1) xs) (places_from t (k + 1) xs) ≡ []
    by ih true h = let here = position-here t x xs h in absurd (omega (arith, e, here))
    by ih false h = let later = position-later t x xs h in rw h (ih (omega (arith, e, later)))

pub no_idle_of : (P : Plan) (p : ℕ) → length P.cpus ≤ p → idle_memberships P.domains p ≡ []
no_idle_of P p le = ap (map (membership_in P.domains p)) (no_places (covers Idle p) 0 P.domains (no_domain_of P p le (covers Idle p) (covers_has Idle p)))

-- # The first idle domain

first_among : {X : Type 0} (t : X → Bool) (f : ℕ → Membership) (k : ℕ) (xs : List X) (q : ℕ) → q ≡ k + position_or_len t xs
    → slice_get (map f (places_from t k xs)) 0 ≡ option_map f (cond (nat_lt q (k + length xs)) (Some q) None)
first_among t f k [] q e =
    let h : nat_lt q (k + 0) ≡ false = grind (arith, nat_tests) in
    rw h refl
first_among t f k (x ∷ xs) q e = by (first_among t f (k + 1) xs q) (t x) refl
  where
    by : (q ≡ (k + 1) + position_or_len t xs → slice_get (map f (places_from t (k + 1) xs)) 0 ≡ option_map f (cond (nat_lt q ((k + 1) + length xs)) (Some q) None))
        → (b : Bool) → t x ≡ b
        → slice_get (map f (cond (t x) (k ∷ places_from t (k + 1) xs) (places_from t (k + 1) xs))) 0 ≡ option_map f (cond (nat_lt q (k + suc (length xs))) (Some q) None)
    by ih true h =
        let here = position-here t x xs h in
        let is : q ≡ k = omega (arith, e, here) in
        let lt : nat_lt k (k + suc (length xs)) ≡ true = grind (arith, nat_tests) in
        rw (h, is, lt) refl
    by ih false h =
        let later = position-later t x xs h in
        let len : (k + 1) + length xs ≡ k + suc (length xs) = omega arith in
        rw h (rw len at (ih (omega (arith, e, later))))

pub first_idle : (ds : List Domain) (p : ℕ) → slice_get (idle_memberships ds p) 0 ≡ first_membership (covers Idle p) ds p
first_idle ds p = rw zero-add at (first_among (covers Idle p) (membership_in ds p) 0 ds (position_or_len (covers Idle p) ds) (omega arith))

-- # Own idle domains

-- all domains pass a test where the processor's idle ones do, if the others do
pub all_own : (P : Plan) (p : ℕ) (t : Domain → Bool) → ((d : Domain) → covers Idle p d ≡ false → t d ≡ true)
    → list_all (λ (s : Membership). t (domain_at P s.place)) (idle_memberships P.domains p) ≡ list_all t P.domains
all_own P p t outside = all_among (covers Idle p) t P.domains no_domain (membership_in P.domains p) (λ s. t (domain_at P s.place)) (λ k. refl) outside 0 P.domains refl

-- one passes where one of its idle ones does, if no other does
pub any_own : (P : Plan) (p : ℕ) (t : Domain → Bool) → ((d : Domain) → covers Idle p d ≡ false → t d ≡ false)
    → list_any (λ (s : Membership). t (domain_at P s.place)) (idle_memberships P.domains p) ≡ list_any t P.domains
any_own P p t outside = any_among (covers Idle p) t P.domains no_domain (membership_in P.domains p) (λ s. t (domain_at P s.place)) (λ k. refl) outside 0 P.domains refl

-- # Children

pub places_size : (P : Plan) → length P.container_index ≡ length P.containers
places_size P = ap length P.indexed.containers ∙ length-map-range_with_len (container_place P.children P.containers) 0 (length P.containers)

pub place_is : (P : Plan) (n : ℕ) (d : Option ℕ) → n < length P.containers → get_or P.container_index n d ≡ container_place P.children P.containers n
place_is P n d lt =
    ap (λ xs. get_or xs n d) P.indexed.containers
    ∙ get_or-map-range_with_len (container_place P.children P.containers) 0 (length P.containers) n n d lt (zero-add n)

listed_in : (P : Plan) (c : Child) (n : ℕ) → IsIn P c → parent_of P c ≡ Some n → list_any (is_same c) (children_at P n) ≡ true
listed_in P (Cpu p) n h e = P.orderly.listed n p h e
listed_in P (Container m) n h e = P.orderly.nested n m h e

-- a child stands at its place
pub child_is : (P : Plan) (c : Child) → IsIn P c → (r : Option ℕ) → r ≡ child_place P.children (parent_of P c) c → MatchOption r (parent_of P c ≡ None) (IsChildPlace P c)
child_is P c h r e = subst (λ s. MatchOption s (parent_of P c ≡ None) (IsChildPlace P c)) (sym e) (by (parent_of P c) refl)
  where
    at : ℕ → ℕ
    at n = position_or_len (is_same c) (children_at P n)

    stands : (n : ℕ) → parent_of P c ≡ Some n → (at n < length (children_at P n)) × (get_or (children_at P n) (at n) c ≡ c)
    stands n is =
        let lt = found (is_same c) (children_at P n) (listed_in P c n h is) in
        (lt, sym (same_child c (get_or (children_at P n) (at n) c) (passes (is_same c) (children_at P n) c lt)))

    step : (n : ℕ) → parent_of P c ≡ Some n → (b : Bool) → nat_lt (at n) (length (children_at P n)) ≡ b → MatchOption (cond b (Some (at n)) None) (parent_of P c ≡ None) (IsChildPlace P c)
    step n is true t = λ m also. let same : n ≡ m = cc in subst (λ k. (at n < length (children_at P k)) × (get_or (children_at P k) (at n) c ≡ c)) same (stands n is)
    step n is false t = let lt = (stands n is).0 in absurd (grind (arith, nat_tests, lt))

    by : (m : Option ℕ) → parent_of P c ≡ m → MatchOption (child_place P.children m c) (parent_of P c ≡ None) (IsChildPlace P c)
    by None is = is
    by (Some n) is = step n is (nat_lt (at n) (length (children_at P n))) refl
