-- Where a fit domain stands at the start.
use Rattle.std.proofs.Common.{◌≡◌, ◌<◌, ◌≤◌, ◌+◌, ◌==◌, ℕ, min, max, Bool, true, false, cond, List, [], ◌∷◌, ◌++◌, map, length, refl, ap, sym, ◌∙◌, arith, ◌&&◌}
use Rattle.std.specs.Prelude.{fold, nat_le, Some}
use Rattle.std.specs.List.{AllByRecursion, flat_map, slice_get}
use Rattle.std.proofs.lemmas.Bool.Decides.{nat_tests}
use Rattle.std.proofs.lemmas.List.{get_or-map}
use Rattle.std.proofs.lemmas.List.Elements.{recursion_from_All}
use Rattle.acpi_values.specs.declared.operation.Op.{Op}
use Rattle.pw_base.specs.Room.{Bounded}
use Rattle.pw_plan.specs.Groups.{has_member, is_software}
use Rattle.pw_plan.proofs.Grouping.{member_bound}
use Rattle.pw_plan.proofs.Lists.{and_first, and_second, or_left}
use Rattle.pw_model.specs.Operations.{opening_at}
use Rattle.pw_regs.specs.Rooms.{HasRoom}
use Rattle.pw_cppc.specs.declared.parts.Control.TheVariants as controls
use Rattle.pw_cppc.specs.declared.parts.CppcParts.{CppcParts}
use Rattle.pw_cppc.specs.declared.plan.CppcDomain.{CppcDomain}
use Rattle.pw_cppc.specs.declared.plan.CppcPlan.{CppcPlan}
use Rattle.pw_cppc.specs.Domains.{same_range}
use Rattle.pw_cppc.specs.Parts.{entry_of, highest_of, is_number, is_ranged, lowest_of, no_parts}
use Rattle.pw_cppc.specs.Planning.{domain_at, parts_at}
use Rattle.pw_cppc.specs.Requests.{opened_by, opening_count}
use Rattle.pw_cppc.specs.Sound.{no_domain}
use Rattle.pw_cppc.specs.States.{any_performance, ask_of, maximum_of, minimum_of, opening, standing, stands_at, within}
use Rattle.pw_cppc.specs.Operations.{opening_ops_of, range_ops, set_on}
use Rattle.pw_cppc.proofs.Appending.{left_room}
use Rattle.pw_cppc.proofs.MembersAsked.{each_member, own_number, same_number}
use Rattle.pw_cppc.proofs.Counting.{opening_at_each, ranges_length}
use Rattle.pw_base.proofs.Facts.{weaker}

-- # Numbers that are all the same

max_same : (f : ℕ → ℕ) (n : ℕ) (ms : List ℕ) → AllByRecursion (λ m. f m ≡ n) ms → fold max n (map f ms) ≡ n
max_same f n [] a = refl
max_same f n (m ∷ ms) a =
    let e : max n (f m) ≡ n = let b = a.0 in omega (arith, b) in
    ap (λ k. fold max k (map f ms)) e ∙ max_same f n ms a.1

min_same : (f : ℕ → ℕ) (n : ℕ) (ms : List ℕ) → AllByRecursion (λ m. f m ≡ n) ms → fold min n (map f ms) ≡ n
min_same f n [] a = refl
min_same f n (m ∷ ms) a =
    let e : min n (f m) ≡ n = let b = a.0 in omega (arith, b) in
    ap (λ k. fold min k (map f ms)) e ∙ min_same f n ms a.1

greatest_same : (f : ℕ → ℕ) (n : ℕ) (ms : List ℕ) → AllByRecursion (λ m. f m ≡ n) ms → 0 < length ms → fold max 0 (map f ms) ≡ n
greatest_same f n [] a some = absurd (omega arith)
greatest_same f n (m ∷ ms) a some =
    let e : max 0 (f m) ≡ n = let b = a.0 in omega (arith, b) in
    ap (λ k. fold max k (map f ms)) e ∙ max_same f n ms a.1

least_same : (f : ℕ → ℕ) (n : ℕ) (ms : List ℕ) → n ≤ any_performance → AllByRecursion (λ m. f m ≡ n) ms → 0 < length ms → fold min any_performance (map f ms) ≡ n
least_same f n [] le a some = absurd (omega arith)
least_same f n (m ∷ ms) le a some =
    let e : min any_performance (f m) ≡ n = let b = a.0 in omega (arith, b, le) in
    ap (λ k. fold min k (map f ms)) e ∙ min_same f n ms a.1

agree : {X Y : Type 0} (Q : X → Type 0) (f g : X → List Y) → ((x : X) → Q x → f x ≡ g x) → (xs : List X) → AllByRecursion Q xs → flat_map f xs ≡ flat_map g xs
agree Q f g h [] a = refl
agree Q f g h (x ∷ xs) a =
    let e : f x ≡ g x = h x a.0 in
    let r : flat_map f xs ≡ flat_map g xs = agree Q f g h xs a.1 in
    cc

ranged_le : (c : CppcParts) → is_ranged c ≡ true → lowest_of c ≤ highest_of c
ranged_le c e =
    let a = is_number (entry_of c.cpc 3) in
    let b = is_number (entry_of c.cpc 0) in
    let le : nat_le (lowest_of c) (highest_of c) ≡ true = and_second (a && b) (nat_le (lowest_of c) (highest_of c)) e in
    grind (arith, nat_tests)

same_lowest : (a b : CppcParts) → same_range a b ≡ true → lowest_of a ≡ lowest_of b
same_lowest a b e = same_number (lowest_of a) (lowest_of b) (and_first (lowest_of a == lowest_of b) (highest_of a == highest_of b) e)

same_highest : (a b : CppcParts) → same_range a b ≡ true → highest_of a ≡ highest_of b
same_highest a b e = same_number (highest_of a) (highest_of b) (and_second (lowest_of a == lowest_of b) (highest_of a == highest_of b) e)

-- # At the start

module _ (P : CppcPlan) where
  pub ask_at_start : (p : ℕ) → p < length P.cpus → ask_of (opening P) p ≡ highest_of (parts_at P p)
  unfolding opening no_parts
  ask_at_start p lt = get_or-map highest_of P.cpus p no_parts 0 lt

  pub minimum_at_start : (p : ℕ) → p < length P.cpus → minimum_of (opening P) p ≡ lowest_of (parts_at P p)
  unfolding opening no_parts
  minimum_at_start p lt = get_or-map lowest_of P.cpus p no_parts 0 lt

  pub maximum_at_start : (p : ℕ) → p < length P.cpus → maximum_of (opening P) p ≡ highest_of (parts_at P p)
  unfolding opening no_parts
  maximum_at_start p lt = get_or-map highest_of P.cpus p no_parts 0 lt

  -- a fit domain at place d
  module _ (d : ℕ) (lt : d < length P.domains) (fit : (domain_at P d).unfit ≡ 0) where
    pub exists : (p : ℕ) → has_member (domain_at P d).members p ≡ true → p < length P.cpus
    exists p m = member_bound (length P.cpus) (domain_at P d).members (recursion_from_All (λ q. q < length P.cpus) (domain_at P d).members (P.sound.members d no_domain lt)) p m

    pub ordered : (p : ℕ) → has_member (domain_at P d).members p ≡ true → lowest_of (parts_at P p) ≤ highest_of (parts_at P p)
    ordered p m = ranged_le (parts_at P p) (P.sound.ranged d no_domain lt p fit m)

    -- a member's bounds aren't crossed
    pub bounds_at_start : (p : ℕ) → has_member (domain_at P d).members p ≡ true → minimum_of (opening P) p ≤ maximum_of (opening P) p
    bounds_at_start p m =
        let a = minimum_at_start p (exists p m) in
        let b = maximum_at_start p (exists p m) in
        let le = ordered p m in
        omega (arith, a, b, le)

    one_lowest : (p q : ℕ) → has_member (domain_at P d).members p ≡ true → has_member (domain_at P d).members q ≡ true → lowest_of (parts_at P p) ≡ lowest_of (parts_at P q)
    one_lowest p q m n = same_lowest (parts_at P p) (parts_at P q) (P.sound.one_range d no_domain lt p q fit m n)

    one_highest : (p q : ℕ) → has_member (domain_at P d).members p ≡ true → has_member (domain_at P d).members q ≡ true → highest_of (parts_at P p) ≡ highest_of (parts_at P q)
    one_highest p q m n = same_highest (parts_at P p) (parts_at P q) (P.sound.one_range d no_domain lt p q fit m n)

    -- members stand where one of them is fastest
    module _ (first : ℕ) (has : has_member (domain_at P d).members first ≡ true) (some : 0 < length (domain_at P d).members) (few : highest_of (parts_at P first) ≤ any_performance) where
      pub stands_highest : (p : ℕ) → has_member (domain_at P d).members p ≡ true → standing P (opening P) d p ≡ highest_of (parts_at P first)
      stands_highest p m =
          let S = opening P in
          let top = highest_of (parts_at P first) in
          let low = lowest_of (parts_at P first) in
          let members = (domain_at P d).members in
          let all = each_member members in
          let asks = greatest_same (ask_of S) top members (weaker (λ q. has_member members q ≡ true) (λ q. ask_of S q ≡ top)
          (λ q n. ask_at_start q (exists q n) ∙ one_highest q first n has) members all) some in
          let minima = greatest_same (minimum_of S) low members (weaker (λ q. has_member members q ≡ true) (λ q. minimum_of S q ≡ low)
          (λ q n. minimum_at_start q (exists q n) ∙ one_lowest q first n has) members all) some in
          let maxima = least_same (maximum_of S) top members few (weaker (λ q. has_member members q ≡ true) (λ q. maximum_of S q ≡ top)
          (λ q n. maximum_at_start q (exists q n) ∙ one_highest q first n has) members all) some in
          let le = ordered first has in
          let a : ask_of S p ≡ top = ask_at_start p (exists p m) ∙ one_highest p first m has in
          let b : minimum_of S p ≡ low = minimum_at_start p (exists p m) ∙ one_lowest p first m has in
          let c : maximum_of S p ≡ top = maximum_at_start p (exists p m) ∙ one_highest p first m has in
          by (is_software (domain_at P d).coord) (omega (arith, asks, minima, maxima, le)) (omega (arith, a, b, c, le))
        where
          by : (soft : Bool) → stands_at (map (ask_of (opening P)) (domain_at P d).members) (map (minimum_of (opening P)) (domain_at P d).members)
              (map (maximum_of (opening P)) (domain_at P d).members) ≡ highest_of (parts_at P first)
              → within (ask_of (opening P) p) (minimum_of (opening P) p) (maximum_of (opening P) p) ≡ highest_of (parts_at P first)
              → cond soft (stands_at (map (ask_of (opening P)) (domain_at P d).members) (map (minimum_of (opening P)) (domain_at P d).members) (map (maximum_of (opening P)) (domain_at P d).members))
              (within (ask_of (opening P) p) (minimum_of (opening P) p) (maximum_of (opening P) p)) ≡ highest_of (parts_at P first)
          by true e f = e
          by false e f = f

      opened_on : (ms : List ℕ) → AllByRecursion (λ p. has_member (domain_at P d).members p ≡ true) ms
          → flat_map (λ p. set_on P controls.Desired p (standing P (opening P) d p)) ms ≡ flat_map (λ p. set_on P controls.Desired p (highest_of (parts_at P first))) ms
      opened_on ms a = agree (λ p. has_member (domain_at P d).members p ≡ true) (λ p. set_on P controls.Desired p (standing P (opening P) d p))
          (λ p. set_on P controls.Desired p (highest_of (parts_at P first)))
          (λ p m. ap (set_on P controls.Desired p) (stands_highest p m)) ms a

-- # What is set

first_is : (ms : List ℕ) (first : ℕ) → Some first ≡ slice_get ms 0 → (has_member ms first ≡ true) × (0 < length ms)
first_is [] first e = cc
first_is (m ∷ ms) first e =
    let own : first ≡ m = cc in
    (or_left (m == first) (has_member ms first) (rw own (own_number m)), omega arith)

-- of a fit domain D at place d, whose first member is this one and has this highest performance
module _ (P : CppcPlan) (d : ℕ) (D : CppcDomain) (ms : List ℕ) (lt : d < length P.domains) (is : D ≡ domain_at P d) (members : ms ≡ D.members) (fit : D.unfit ≡ 0) where
  all_are : ms ≡ (domain_at P d).members
  all_are = members ∙ ap (λ (x : CppcDomain). x.members) is

  fit_is : (domain_at P d).unfit ≡ 0
  fit_is = ap (λ (x : CppcDomain). x.unfit) (sym is) ∙ fit

  count_is : opening_count P (domain_at P d) ≡ length (flat_map (range_ops P) ms) + opened_by D.coord ms
  count_is =
      let fits : ((domain_at P d).unfit == 0) ≡ true = rw fit_is refl in
      let c : (domain_at P d).coord ≡ D.coord = ap (λ (x : CppcDomain). x.coord) (sym is) in
      rw (fits, c, ← all_are) (let n = ranges_length P ms in omega (arith, n))

  -- behind the bounds there is room for what is left
  pub room_left : (ops mid : Bounded Op) → mid ≡ record ops { elements = ops.elements ++ flat_map (range_ops P) ms } → HasRoom ops (opening_count P (domain_at P d))
      → HasRoom mid (opened_by D.coord ms)
  room_left ops mid pushed room = left_room ops mid (flat_map (range_ops P) ms) (length (flat_map (range_ops P) ms)) (opened_by D.coord ms) pushed (omega arith) (rw (← count_is) room)

  pub sets_all : (first top : ℕ) → Some first ≡ slice_get ms 0 → top ≡ highest_of (parts_at P first) → top ≤ any_performance
      → flat_map (range_ops P) ms ++ flat_map (λ p. set_on P controls.Desired p top) (opening_at D.coord ms) ≡ opening_ops_of P d
  sets_all first top found fastest few =
      let f = first_is ms first found in
      let fits : ((domain_at P d).unfit == 0) ≡ true = rw fit_is refl in
      let c : (domain_at P d).coord ≡ D.coord = ap (λ (x : CppcDomain). x.coord) (sym is) in
      let on = opened_on P d lt fit_is first (rw all_are at f.0) (rw all_are at f.1) (rw fastest at few) (opening_at D.coord ms)
      (opening_at_each (λ p. has_member (domain_at P d).members p ≡ true) D.coord ms (rw all_are (each_member (domain_at P d).members))) in
      ap (λ ys. flat_map (range_ops P) ms ++ ys) (ap (λ (n : ℕ). flat_map (λ p. set_on P controls.Desired p n) (opening_at D.coord ms)) fastest ∙ sym on)
      ∙ rw (fits, c, ← all_are) refl
