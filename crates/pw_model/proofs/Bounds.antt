-- How many operations there are.
use Rattle.std.proofs.Common.{◌≡◌, ◌<◌, ◌≤◌, ◌+◌, ◌==◌, ◌||◌, ◌&&◌, not, ℕ, suc, Bool, true, false, cond, List, [], ◌∷◌, map, length, get_or, Option, Some, None, refl, ap, ◌∙◌, arith, length-append, zero-add, inl, inr}
use Rattle.std.specs.Prelude.{filter, nat_lt, sum_by}
use Rattle.std.specs.List.{flat_map, range_with_len}
use Rattle.std.proofs.lemmas.Bool.{cases_lt}
use Rattle.std.proofs.lemmas.Bool.Decides.{nat_tests}
use Rattle.std.proofs.lemmas.List.{get_or_past, length-map}
use Rattle.std.proofs.lemmas.List.Sums.{passes_at_first, sum_by-cons}
use Rattle.acpi_values.specs.declared.dependency.Coord.{Coord}
use Rattle.acpi_values.specs.declared.dependency.Coord.TheVariants.{SwAll, SwAny, HwAll}
use Rattle.acpi_values.specs.declared.idle.IdleKind.{IdleKind}
use Rattle.acpi_values.specs.declared.idle.IdleKind.TheVariants.{Lpi, Cst, Absent}
use Rattle.acpi_values.specs.declared.operation.Op.{Op}
use Rattle.pw_plan.specs.declared.domain.DomainKind.{DomainKind}
use Rattle.pw_plan.specs.declared.domain.DomainKind.TheVariants as kinds
use Rattle.pw_plan.specs.declared.domain.Group.{Group}
use Rattle.pw_plan.specs.declared.plan.Plan.{Plan}
use Rattle.pw_plan.specs.declared.request.Request.{Request}
use Rattle.pw_plan.specs.declared.request.Request.TheVariants.{Idle, Wake, Perf, Throttle, PerfLimit, ThrottleLimit}
use Rattle.pw_plan.specs.Groups.{has_member, is_idle, no_domain}
use Rattle.pw_plan.specs.Places.{cpu_at, domain_at, domain_of, group_at, group_of, no_group}
use Rattle.pw_plan.specs.Opening.{opening_by, opening_count}
use Rattle.pw_plan.specs.Requests.{domain_bound, group_bound, opening_bound, ops_bound, set_count}
use Rattle.pw_model.specs.declared.reply.Reply.{Reply}
use Rattle.pw_model.specs.declared.state.State.{State}
use Rattle.pw_model.specs.States.{opening}
use Rattle.pw_model.specs.Answers.{changed, if_accepted}
use Rattle.pw_model.specs.Domains.{c_state, standing}
use Rattle.pw_model.specs.Refusals.{refusal}
use Rattle.pw_model.specs.Operations.{accepted_ops, domain_ops, drawn_with, enter, idle_ops, is_drawn, opening_at, opening_ops, opening_ops_of, ops_of, own_entry, set_at, set_on}

-- # Performance and throttling

pub set_at-length : (coord : Coord) (members : List ℕ) (p : ℕ) → length (set_at coord members p) ≡ set_count coord (length members)
set_at-length SwAll members p = refl
set_at-length SwAny members p = refl
set_at-length HwAll members p = refl

domain_ops-le : (P : Plan) (S T : State) (kind : DomainKind) (p : ℕ) → length (domain_ops P S T kind p) ≤ domain_bound P kind p
domain_ops-le P S T kind p = step (standing P S (domain_of P kind p) p == standing P T (domain_of P kind p) p)
  where
    step : (b : Bool) → length (cond b [] (map (set_on P kind (standing P T (domain_of P kind p) p)) (set_at (domain_at P (domain_of P kind p)).coord (domain_at P (domain_of P kind p)).members p))) ≤
        domain_bound P kind p
    step true = omega arith
    step false =
        rw (length-map, set_at-length (domain_at P (domain_of P kind p)).coord (domain_at P (domain_of P kind p)).members p) (omega arith)

-- # Idle states

pub own_entry-le : (kind : IdleKind) (c : ℕ) (op : Op) → length (own_entry kind c op) ≤ 1
own_entry-le Lpi c op = omega arith
own_entry-le Absent c op = omega arith
own_entry-le Cst c op = step (c == 0)
  where
    step : (b : Bool) → length (cond b [] (op ∷ [])) ≤ 1
    step true = omega arith
    step false = omega arith

filter-le : {X : Type 0} (t : X → Bool) (xs : List X) → length (filter t xs) ≤ length xs
filter-le t [] = omega arith
filter-le t (x ∷ xs) = step (t x) (filter-le t xs)
  where
    step : (b : Bool) → length (filter t xs) ≤ length xs → length (cond b (x ∷ filter t xs) (filter t xs)) ≤ suc (length xs)
    step true le = omega arith
    step false le = omega arith

-- who is left out isn't counted
pub others-lt : (t : ℕ → Bool) (p : ℕ) (ms : List ℕ) → has_member ms p ≡ true → length (filter (λ q. not (q == p) && t q) ms) < length ms
others-lt t p [] e = cc
others-lt t p (m ∷ ms) e = step (m == p) e (others-lt t p ms)
  where
    kept : (b : Bool) → length (filter (λ q. not (q == p) && t q) ms) < length ms → length (cond b (m ∷ filter (λ q. not (q == p) && t q) ms) (filter (λ q. not (q == p) && t q) ms)) < suc (length ms)
    kept true lt = omega arith
    kept false lt = omega arith

    step : (b : Bool) → (b || has_member ms p) ≡ true → (has_member ms p ≡ true → length (filter (λ q. not (q == p) && t q) ms) < length ms)
        → length (cond (not b && t m) (m ∷ filter (λ q. not (q == p) && t q) ms) (filter (λ q. not (q == p) && t q) ms)) < suc (length ms)
    step true e later = let le = filter-le (λ q. not (q == p) && t q) ms in omega (arith, le)
    step false e later = kept (t m) (later e)

no_members : no_group.members ≡ []
unfolding no_group
no_members = refl

pub drawn-few : (P : Plan) (S T : State) (p : ℕ) → 1 + length (drawn_with P S T p) ≤ group_bound P p
drawn-few P S T p = elim (cases_lt (group_of P p) (length P.groups)) [
  | inl lt ↦
      let found : nat_lt (group_of P p) (length P.groups) ≡ true = grind (arith, nat_tests) in
      let member : has_member (group_at P (group_of P p)).members p ≡ true = passes_at_first (λ (g : Group). has_member g.members p) P.groups no_group lt in
      let few = others-lt (is_drawn P S T) p (group_at P (group_of P p)).members member in
      rw found (omega (arith, few))
  | inr ge ↦
      let none : nat_lt (group_of P p) (length P.groups) ≡ false = grind (arith, nat_tests) in
      let alone : (group_at P (group_of P p)).members ≡ [] = ap (λ (g : Group). g.members) (get_or_past P.groups (group_of P p) no_group ge) ∙ no_members in
      rw (none, alone) (omega arith)
]

idle_ops-le : (P : Plan) (S T : State) (p : ℕ) → length (idle_ops P S T p) ≤ group_bound P p
idle_ops-le P S T p =
    let own = own_entry-le (cpu_at P p).idle.kind (c_state P T p) (enter P T p) in
    let few = drawn-few P S T p in
    rw (length-append (own_entry (cpu_at P p).idle.kind (c_state P T p) (enter P T p)) (map (enter P T) (drawn_with P S T p)), length-map (drawn_with P S T p) (enter P T)) (omega (arith, own, few))

-- # All requests

accepted_ops-le : (P : Plan) (S T : State) (q : Request) → length (accepted_ops P S T q) ≤ ops_bound P q
unfolding accepted_ops
accepted_ops-le P S T (Idle p s t) = idle_ops-le P S T p
accepted_ops-le P S T (Wake p) = omega arith
accepted_ops-le P S T (Perf p i) = domain_ops-le P S T kinds.Perf p
accepted_ops-le P S T (Throttle p i) = domain_ops-le P S T kinds.Throttle p
accepted_ops-le P S T (PerfLimit p n) = domain_ops-le P S T kinds.Perf p
accepted_ops-le P S T (ThrottleLimit p n) = domain_ops-le P S T kinds.Throttle p

pub ops_of-le : (P : Plan) (S : State) (q : Request) → length (ops_of P S q) ≤ ops_bound P q
unfolding ops_of
ops_of-le P S q = step (refusal P S q)
  where
    step : (r : Option Reply) → length (if_accepted r (λ reply. []) (accepted_ops P S (changed P S q) q)) ≤ ops_bound P q
    step None = accepted_ops-le P S (changed P S q) q
    step (Some reply) = omega arith

-- # The start

opening_at-length : (coord : Coord) (members : List ℕ) → length (opening_at coord members) ≡ opening_by coord (length members)
opening_at-length SwAll members = refl
opening_at-length SwAny [] = refl
opening_at-length SwAny (m ∷ ms) = omega arith
opening_at-length HwAll members = refl

pub opening_of-length : (P : Plan) (d : ℕ) → length (opening_ops_of P d) ≡ opening_count (domain_at P d)
opening_of-length P d = step (is_idle (domain_at P d).kind) (nat_lt 0 (domain_at P d).unfit)
  where
    step : (a b : Bool)
        → length (cond a [] (cond b [] (map (λ p. set_on P (domain_at P d).kind (standing P (opening P) d p) p) (opening_at (domain_at P d).coord (domain_at P d).members))))
        ≡ cond a 0 (cond b 0 (opening_by (domain_at P d).coord (length (domain_at P d).members)))
    step true b = refl
    step false true = refl
    step false false = length-map (opening_at (domain_at P d).coord (domain_at P d).members) (λ p. set_on P (domain_at P d).kind (standing P (opening P) d p) p)
        ∙ opening_at-length (domain_at P d).coord (domain_at P d).members

-- lists put together, one for each element of another
pub total : {X Y : Type 0} (f : ℕ → List Y) (g : X → ℕ) (d : X) (xs : List X) (k : ℕ) → ((i : ℕ) → i < length xs → length (f (k + i)) ≡ g (get_or xs i d))
    → length (flat_map f (range_with_len k (length xs))) ≡ sum_by g xs
total f g d [] k h = refl
total f g d (x ∷ xs) k h =
    let here : length (f k) ≡ g x = rw k+0 at (h 0 (omega arith)) in
    let later = total f g d xs (k + 1) (λ i lt. rw (same i) (h (suc i) (omega arith))) in
    rw (length-append (f k) (flat_map f (range_with_len (k + 1) (length xs))), sum_by-cons) (omega (arith, here, later))
  where
    k+0 : k + 0 ≡ k
    k+0 = omega arith

    same : (i : ℕ) → (k + 1) + i ≡ k + suc i
    same i = omega arith

pub opening_ops-length : (P : Plan) → length (opening_ops P) ≡ opening_bound P
unfolding opening_ops
opening_ops-length P = total (opening_ops_of P) opening_count no_domain P.domains 0 (λ i lt. rw zero-add (opening_of-length P i))
