-- A vote on the record of a group.
use Rattle.std.proofs.Common.{◌≡◌, ◌<◌, ◌≤◌, ◌++◌, ℕ, Bool, true, false, cond, List, length, refl, ap, sym, subst, ◌∙◌, arith}
use Rattle.std.specs.Prelude.{nat_lt}
use Rattle.std.proofs.lemmas.Bool.Decides.{nat_tests}
use Rattle.acpi_values.specs.Idle.{rows_of}
use Rattle.acpi_values.specs.declared.idle.IdleKind.TheVariants.{Cst}
use Rattle.pw_plan.specs.declared.plan.Plan.{Plan}
use Rattle.pw_plan.specs.declared.request.Request.{Request}
use Rattle.pw_plan.specs.declared.request.Request.TheVariants.{Idle, Wake, Perf, Throttle, PerfLimit, ThrottleLimit}
use Rattle.pw_plan.specs.Groups.{no_group}
use Rattle.pw_plan.specs.Places.{cpu_at, group_at, group_of}
use Rattle.pw_plan.specs.Requests.{cpu_of, group_bound}
use Rattle.pw_model.specs.Operations.{own_entry}
use Rattle.pw_model.specs.Calls.{group_c_state, group_ops, with_state}
use Rattle.pw_model.specs.Effects.{c_state_by, drawn_ops, enter_c, member_place, states_in, states_with}
use Rattle.pw_model.specs.Holding.{member_in}
use Rattle.pw_model.specs.Records.{Part}
use Rattle.pw_model.proofs.Calls.{calls_serve}
use Rattle.pw_model.proofs.Gathered.{group_member}
use Rattle.pw_model.proofs.Plans.{wired}
use Rattle.pw_machine.specs.Standing.{own_vote}
use Rattle.pw_machine.specs.Walk.{group_with, grouped, left, own_c_state}
use Rattle.pw_walker.specs.inner.Going.{IsVote}

module _ (P : Plan) (p : ℕ) (lt : group_of P p < length P.groups) where
  abbrev ms : List ℕ
  ms = (group_at P (group_of P p)).members

  stands : (member_place ms p < length ms) × (member_in ms (member_place ms p) ≡ p)
  stands = (calls_serve P).grouped_at (group_of P p) p (group_member P (wired P) p lt)

  module _ (h k : ℕ) (he : h ≡ group_of P p) (ke : k ≡ member_place ms p) where
    pub member_below : k < length (group_at P h).members
    member_below = rw (he, ke) stands.0

    pub member_may : (s : ℕ) → s ≤ length (rows_of (cpu_at P p).idle) → s ≤ length (rows_of (cpu_at P (member_in (group_at P h).members k)).idle)
    member_may s le = rw (he, ke) (subst (λ q. s ≤ length (rows_of (cpu_at P q).idle)) (sym stands.1) le)

    -- what a vote there comes to, and its operations
    module _ (s : ℕ) (x y : Part) (ye : y ≡ with_state k s x) where
      part_is : y ≡ group_with P (group_of P p) p s x
      part_is = ye ∙ ap (λ j. with_state j s x) ke

      pub level_is : (i : ℕ) → i ≡ group_of P p → group_c_state P i y k ≡ own_c_state P (group_of P p) p s x
      level_is i ie =
          ap (λ j. group_c_state P j y k) ie
          ∙ ap (λ z. group_c_state P (group_of P p) z k) part_is
          ∙ ap (group_c_state P (group_of P p) (group_with P (group_of P p) p s x)) ke
          ∙ ap (c_state_by P ms (states_with ms p s (states_in x))) stands.1

      pub ops_are : group_ops P h k x y ≡ own_entry Cst (own_c_state P (group_of P p) p s x) (enter_c P p (own_c_state P (group_of P p) p s x))
          ++ drawn_ops P ms (states_in x) (states_with ms p s (states_in x)) p
      ops_are =
          let new = states_with ms p s (states_in x) in
          ap (λ j. group_ops P j k x y) he
          ∙ ap (λ j. group_ops P (group_of P p) j x y) ke
          ∙ ap (group_ops P (group_of P p) (member_place ms p) x) part_is
          ∙ ap (λ q. own_entry Cst (c_state_by P ms new q) (enter_c P q (c_state_by P ms new q)) ++ drawn_ops P ms (states_in x) new q) stands.1

  pub member_few : (k : ℕ) → k ≡ member_place ms p → k ≤ 256
  member_few k ke =
      let below = member_below (group_of P p) k refl ke in
      let few : length ms ≤ 256 = P.sound.groups.sizes (group_of P p) no_group lt in
      omega (arith, below, few)

-- the part that a vote leaves
pub left_is : (P : Plan) (q : Request) (g : ℕ) (x : Part) → IsVote q
    → left P q (grouped g) x ≡ with_state (member_place (group_at P g).members (cpu_of q)) (own_vote q).state x
left_is P (Idle p s t) g x v = refl
left_is P (Wake p) g x v = refl
left_is P (Perf p i) g x v = absurd v
left_is P (Throttle p i) g x v = absurd v
left_is P (PerfLimit p n) g x v = absurd v
left_is P (ThrottleLimit p n) g x v = absurd v

-- an idle request has room for one operation at least
pub some_bound : (P : Plan) (p : ℕ) → 1 ≤ group_bound P p
some_bound P p = step (nat_lt (group_of P p) (length P.groups)) refl
  where
    step : (b : Bool) → nat_lt (group_of P p) (length P.groups) ≡ b → 1 ≤ cond b (length (group_at P (group_of P p)).members) 1
    step true e =
        let lt : group_of P p < length P.groups = grind (arith, nat_tests) in
        let below = member_below P p lt (group_of P p) (member_place (group_at P (group_of P p)).members p) refl refl in
        omega (arith, below)
    step false e = omega arith
