-- C states of a group's members, and those who are drawn along.
use Rattle.std.proofs.Common.{◌≡◌, ◌<◌, ◌≤◌, ◌+◌, ◌==◌, ◌&&◌, ◌||◌, not, ℕ, suc, zero, Bool, true, false, cond, List, [], ◌∷◌, ◌++◌, length, get_or, length-append, map, eqb-true, nat_le, refl, ap, sym, subst, ◌∙◌, arith, set, length-set, ◌⊎◌, ◌≢◌, inl, inr, get_or-set_same, get_or-set_other}
use Rattle.std.specs.Prelude.{filter}
use Rattle.std.specs.List.{list_any}
use Rattle.std.proofs.lemmas.Bool.{cases_eq}
use Rattle.std.proofs.lemmas.Bool.Decides.{nat_tests}
use Rattle.acpi_values.specs.Idle.{rows_of}
use Rattle.acpi_values.specs.declared.operation.Op.{Op}
use Rattle.pw_plan.specs.declared.domain.Domain.{Domain}
use Rattle.pw_plan.specs.declared.plan.Plan.{Plan}
use Rattle.pw_plan.specs.declared.domain.DomainKind.TheVariants.{Idle}
use Rattle.pw_plan.specs.Covering.{covers}
use Rattle.pw_plan.specs.Groups.{has_member, is_software}
use Rattle.pw_plan.specs.Places.{cpu_at, group_at}
use Rattle.pw_plan.proofs.Found.{position-here, position-later}
use Rattle.acpi_values.specs.declared.idle.IdleKind.TheVariants.{Cst}
use Rattle.pw_base.specs.Room.{Bounded}
use Rattle.pw_model.specs.Operations.{own_entry}
use Rattle.pw_model.proofs.Bounds.{own_entry-le, others-lt}
use Rattle.pw_model.proofs.Greatest.{greatest-le}
use Rattle.pw_model.specs.Domains.{governs, is_sw_all}
use Rattle.pw_model.specs.Effects.{c_state_by, drawn_by, drawn_ops, enter_c, enters_by, gathered_by, member_place, state_by}
use Rattle.pw_model.specs.Holding.{HoldsStates, member_in}
use Rattle.pw_model.proofs.Calls.{calls_serve}
use Rattle.pw_core.proofs.Undrawn.{nobody_drawn}
use Rattle.pw_domain.specs.inner.Brought.{brought_by}

-- a member's C state is one of its table
pub c_state_le : (P : Plan) (g : ℕ) (ss : List ℕ) (i : ℕ) → HoldsStates P g ss → i < length (group_at P g).members
    → c_state_by P (group_at P g).members ss (get_or (group_at P g).members i 0) ≤ length (rows_of (cpu_at P (get_or (group_at P g).members i 0)).idle)
c_state_le P g ss i h lt =
    let ms = (group_at P g).members in
    let q = get_or ms i 0 in
    let at : member_place ms q ≡ i = (calls_serve P).grouped_place g i lt in
    let voted : state_by ms ss q ≡ get_or ss i 0 = ap (λ k. get_or ss k 0) at in
    let own = h.states i lt in
    let le = greatest-le (enters_by P ms ss q) (state_by ms ss q) in
    omega (arith, voted, own, le)

-- # The others are fewer than all

filter-le : (t : ℕ → Bool) (xs : List ℕ) → length (filter t xs) ≤ length xs
filter-le t [] = omega arith
filter-le t (x ∷ xs) = step (t x) (filter-le t xs)
  where
    step : (b : Bool) → length (filter t xs) ≤ length xs → length (cond b (x ∷ filter t xs) (filter t xs)) ≤ suc (length xs)
    step true le = omega arith
    step false le = omega arith

member_there : (ms : List ℕ) (i : ℕ) → i < length ms → has_member ms (get_or ms i 0) ≡ true
member_there [] i lt = absurd (omega arith)
member_there (m ∷ ms) zero lt = let e : (m == m) ≡ true = grind (arith, nat_tests) in rw e refl
member_there (m ∷ ms) (suc i) lt = step (m == get_or ms i 0) (member_there ms i (omega arith))
  where
    step : (b : Bool) → has_member ms (get_or ms i 0) ≡ true → (b || has_member ms (get_or ms i 0)) ≡ true
    step true e = refl
    step false e = e

-- who stands among them is left out
pub others_room : (P : Plan) (g : ℕ) (t : ℕ → Bool) (i : ℕ) → i < length (group_at P g).members
    → length (filter (λ q. not (q == get_or (group_at P g).members i 0) && t q) (group_at P g).members) < length (group_at P g).members
others_room P g t i lt = others-lt t (get_or (group_at P g).members i 0) (group_at P g).members (member_there (group_at P g).members i lt)

pub states_set : (P : Plan) (g : ℕ) (ss : List ℕ) (k s : ℕ) → HoldsStates P g ss → k < length (group_at P g).members
    → s ≤ length (rows_of (cpu_at P (member_in (group_at P g).members k)).idle) → HoldsStates P g (set ss k s)
states_set P g ss k s h lt le = record {
  members = length-set ss k s ∙ h.members;
  states = λ j below. at j below (cases_eq j k);
}
  where
    has : length ss ≡ length (group_at P g).members
    has = h.members

    at : (j : ℕ) → j < length (group_at P g).members → (j ≡ k) ⊎ (j ≢ k) → get_or (set ss k s) j 0 ≤ length (rows_of (cpu_at P (member_in (group_at P g).members j)).idle)
    at j below (inl e) = rw (e, get_or-set_same ss k s 0 (omega arith)) le
    at j below (inr ne) = rw (get_or-set_other ss k j s 0 ne) (h.states j below)

-- after the requester's own entry there is room for those who are drawn along
pub drawn_room : (P : Plan) (g : ℕ) (ss : List ℕ) (k s level : ℕ) (op : Op) (ops after : Bounded Op) (ms : List ℕ) → k < length (group_at P g).members
    → length ops.elements + length (group_at P g).members ≤ ops.capacity → ms ≡ (group_at P g).members
    → after ≡ record ops { elements = ops.elements ++ own_entry Cst level op }
    → length after.elements + length (filter (λ q. not (q == get_or ms k 0) && drawn_by P (group_at P g).members ss (set ss k s) q) (group_at P g).members) ≤ after.capacity
drawn_room P g ss k s level op ops after ms lt room are e =
    let few = others_room P g (drawn_by P (group_at P g).members ss (set ss k s)) k lt in
    let more = length-append ops.elements (own_entry Cst level op) in
    let own = own_entry-le Cst level op in
    rw (e, are) (omega (arith, few, more, own, room))

-- # Nobody is drawn along where the vote brings no domain to be gathered

found_at : (ms : List ℕ) (r k : ℕ) → k < length ms → member_place ms r ≡ k → get_or ms k 0 ≡ r
found_at [] r k lt e = absurd (omega arith)
found_at (m ∷ ms) r k lt e = step (m == r) refl k lt e (found_at ms r)
  where
    step : (b : Bool) → (m == r) ≡ b → (k : ℕ) → k < suc (length ms) → member_place (m ∷ ms) r ≡ k → ((i : ℕ) → i < length ms → member_place ms r ≡ i → get_or ms i 0 ≡ r)
        → get_or (m ∷ ms) k 0 ≡ r
    step true h zero lt e later = eqb-true m r h
    step true h (suc k) lt e later = let here = position-here (λ q. q == r) m ms h in absurd (omega (arith, here, e))
    step false h zero lt e later = let next = position-later (λ q. q == r) m ms h in absurd (omega (arith, next, e))
    step false h (suc k) lt e later = let next = position-later (λ q. q == r) m ms h in later k (omega arith) (omega (arith, next, e))

pub nobody_drawn_by : (P : Plan) (g : ℕ) (ss : List ℕ) (k s : ℕ) → HoldsStates P g ss → k < length (group_at P g).members
    → list_any (brought_by (group_at P g).members ss k s (member_in (group_at P g).members k)) P.domains ≡ false
    → drawn_ops P (group_at P g).members ss (set ss k s) (member_in (group_at P g).members k) ≡ []
nobody_drawn_by P g ss k s h lt none =
    let ms = (group_at P g).members in
    let new = set ss k s in
    let at_place : state_by ms ss (get_or ms k 0) ≡ get_or ss k 0 = ap (λ i. get_or ss i 0) ((calls_serve P).grouped_place g k lt) in
    ap (map (λ q. enter_c P q (c_state_by P ms new q)))
    (nobody_drawn P (state_by ms ss) (state_by ms new) (get_or ms k 0) (λ r ne. get_or-set_other ss k (member_place ms r) s 0 (λ e. ne (sym (found_at ms r k lt e))))
    (λ q. list_any (λ (d : Domain). governs q (c_state_by P ms new q) d && is_sw_all d.coord) P.domains) ms
    (subst (λ n. list_any (λ (d : Domain). (covers Idle (get_or ms k 0) d && is_software d.coord) && (nat_le n d.index && gathered_by ms new d)) P.domains ≡ false) (sym at_place) none))
