-- How many operations there are.
use Rattle.std.proofs.Common.{◌≡◌, ◌<◌, ◌≤◌, ◌+◌, ◌==◌, ℕ, Bool, true, false, cond, List, [], ◌∷◌, ◌++◌, length, Option, Some, None, refl, ap, ◌∙◌, arith, length-append}
use Rattle.std.specs.Prelude.{is_some, sum_by}
use Rattle.std.specs.List.{AllByRecursion, flat_map}
use Rattle.std.proofs.lemmas.List.Concat.{length-flat_map}
use Rattle.std.proofs.lemmas.List.Sums.{sum_by-cons}
use Rattle.acpi_values.specs.declared.dependency.Coord.{Coord}
use Rattle.acpi_values.specs.declared.dependency.Coord.TheVariants.{HwAll, SwAll, SwAny}
use Rattle.acpi_values.specs.declared.register.Register.{Register}
use Rattle.pw_plan.specs.Groups.{has_member}
use Rattle.pw_model.specs.Operations.{opening_at}
use Rattle.pw_cppc.specs.declared.parts.Control.{Control}
use Rattle.pw_cppc.specs.declared.parts.Control.TheVariants as controls
use Rattle.pw_cppc.specs.declared.parts.CppcParts.{CppcParts}
use Rattle.pw_cppc.specs.declared.plan.CppcPlan.{CppcPlan}
use Rattle.pw_cppc.specs.Parts.{highest_of, lowest_of, register_of}
use Rattle.pw_cppc.specs.Planning.{domain_at, parts_at}
use Rattle.pw_cppc.specs.Requests.{opened_by, opening_count, register_count}
use Rattle.pw_cppc.specs.Sound.{no_domain}
use Rattle.pw_cppc.proofs.MembersAsked.{each_member, same_number}
use Rattle.pw_cppc.specs.States.{opening, standing}
use Rattle.pw_cppc.specs.Operations.{opening_ops_of, range_ops, set_in, set_on}
use Rattle.pw_base.proofs.Facts.{weaker}

pub count_le : (control : Control) (c : CppcParts) → register_count control c ≤ 1
count_le control c = step (is_some (register_of control c))
  where
    step : (b : Bool) → cond b 1 0 ≤ 1
    step true = omega arith
    step false = omega arith

set_in_length : (r : Option Register) (p v : ℕ) → length (set_in r p v) ≡ cond (is_some r) 1 0
set_in_length None p v = refl
set_in_length (Some r) p v = refl

-- one where the processor has the register
pub set_on_length : (P : CppcPlan) (control : Control) (p v : ℕ) → length (set_on P control p v) ≡ register_count control (parts_at P p)
set_on_length P control p v = set_in_length (register_of control (parts_at P p)) p v

pub set_on_le : (P : CppcPlan) (control : Control) (p v : ℕ) → length (set_on P control p v) ≤ 1
set_on_le P control p v =
    let e = set_on_length P control p v in
    let le = count_le control (parts_at P p) in
    omega (arith, e, le)

pub range_ops_length : (P : CppcPlan) (p : ℕ) → length (range_ops P p) ≡ register_count controls.Minimum (parts_at P p) + register_count controls.Maximum (parts_at P p)
range_ops_length P p =
    let c = parts_at P p in
    let a = set_on_length P controls.Minimum p (lowest_of c) in
    let b = set_on_length P controls.Maximum p (highest_of c) in
    let both = length-append (set_on P controls.Minimum p (lowest_of c)) (set_on P controls.Maximum p (highest_of c)) in
    omega (arith, a, b, both)

sum_same : {X : Type 0} (f g : X → ℕ) → ((x : X) → f x ≡ g x) → (xs : List X) → sum_by f xs ≡ sum_by g xs
sum_same f g h [] = refl
sum_same f g h (x ∷ xs) =
    let a = h x in
    let b = sum_same f g h xs in
    let left = sum_by-cons f x xs in
    let right = sum_by-cons g x xs in
    omega (arith, a, b, left, right)

pub ranges_length : (P : CppcPlan) (ms : List ℕ) → length (flat_map (range_ops P) ms) ≡ sum_by (λ p. register_count controls.Minimum (parts_at P p) + register_count controls.Maximum (parts_at P p)) ms
ranges_length P ms =
    length-flat_map (range_ops P) ms
    ∙ sum_same (λ p. length (range_ops P p)) (λ p. register_count controls.Minimum (parts_at P p) + register_count controls.Maximum (parts_at P p)) (range_ops_length P) ms

-- # The start

-- where each has the register
each_sets : (P : CppcPlan) (f : ℕ → ℕ) (ms : List ℕ) → AllByRecursion (λ p. is_some (register_of controls.Desired (parts_at P p)) ≡ true) ms
    → length (flat_map (λ p. set_on P controls.Desired p (f p)) ms) ≡ length ms
each_sets P f [] a = refl
each_sets P f (m ∷ ms) a =
    let one : register_count controls.Desired (parts_at P m) ≡ 1 = ap (λ b. cond b 1 0) a.0 in
    let here = set_on_length P controls.Desired m (f m) in
    let later = each_sets P f ms a.1 in
    let both = length-append (set_on P controls.Desired m (f m)) (flat_map (λ p. set_on P controls.Desired p (f p)) ms) in
    omega (arith, one, here, later, both)

opening_at_length : (coord : Coord) (ms : List ℕ) → length (opening_at coord ms) ≡ opened_by coord ms
opening_at_length SwAll ms = refl
opening_at_length SwAny [] = refl
opening_at_length SwAny (m ∷ ms) = refl
opening_at_length HwAll ms = refl

pub opening_at_each : (Q : ℕ → Type 0) (coord : Coord) (ms : List ℕ) → AllByRecursion Q ms → AllByRecursion Q (opening_at coord ms)
opening_at_each Q SwAll ms a = a
opening_at_each Q SwAny [] a = tt
opening_at_each Q SwAny (m ∷ ms) a = (a.0, tt)
opening_at_each Q HwAll ms a = a

pub opening_of_length : (P : CppcPlan) (d : ℕ) → d < length P.domains → length (opening_ops_of P d) ≡ opening_count P (domain_at P d)
opening_of_length P d lt = step ((domain_at P d).unfit == 0) refl
  where
    step : (b : Bool) → ((domain_at P d).unfit == 0) ≡ b
        → length (cond b (flat_map (range_ops P) (domain_at P d).members ++ flat_map (λ p. set_on P controls.Desired p (standing P (opening P) d p))
        (opening_at (domain_at P d).coord (domain_at P d).members)) [])
        ≡ cond b (sum_by (λ p. register_count controls.Minimum (parts_at P p) + register_count controls.Maximum (parts_at P p)) (domain_at P d).members + opened_by (domain_at P d).coord
        (domain_at P d).members) 0
    step false e = refl
    step true e =
        let coord = (domain_at P d).coord in
        let ms = (domain_at P d).members in
        let on = opening_at coord ms in
        let fit : (domain_at P d).unfit ≡ 0 = same_number (domain_at P d).unfit 0 e in
        let all = weaker (λ p. has_member ms p ≡ true) (λ p. is_some (register_of controls.Desired (parts_at P p)) ≡ true) (λ p m. P.sound.registered d no_domain lt p fit m) ms (each_member ms) in
        let ranges = ranges_length P ms in
        let set = each_sets P (standing P (opening P) d) on (opening_at_each (λ p. is_some (register_of controls.Desired (parts_at P p)) ≡ true) coord ms all) in
        let count = opening_at_length coord ms in
        let both = length-append (flat_map (range_ops P) ms) (flat_map (λ p. set_on P controls.Desired p (standing P (opening P) d p)) on) in
        omega (arith, ranges, set, count, both)
