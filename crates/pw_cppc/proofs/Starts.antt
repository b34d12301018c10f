-- The operations at the start, one by one.
use Rattle.std.proofs.Common.{◌≡◌, ◌<◌, ◌==◌, ◌||◌, ℕ, suc, Bool, true, false, cond, List, [], ◌∷◌, ◌++◌, length, Option, Some, None, refl, ap, sym, subst, inl, inr, arith, zero-add, eqb-true, eq-eqb}
use Rattle.std.specs.Prelude.{Contains}
use Rattle.std.specs.List.{flat_map, AllByRecursion}
use Rattle.acpi_values.specs.declared.dependency.Coord.{Coord}
use Rattle.acpi_values.specs.declared.dependency.Coord.TheVariants.{SwAll, SwAny, HwAll}
use Rattle.acpi_values.specs.declared.operation.Op.{Op}
use Rattle.acpi_values.specs.declared.operation.Op.TheVariants as op
use Rattle.acpi_values.specs.declared.register.Register.{Register}
use Rattle.pw_plan.specs.Groups.{first_of, has_member}
use Rattle.pw_plan.proofs.Lists.{each_append, each_flat_map, or_left, or_right}
use Rattle.pw_plan.proofs.Ordered.{In, in_flat_map, in_left, in_right}
use Rattle.pw_plan.proofs.Placing.{the_member}
use Rattle.pw_model.proofs.Registers.{opening_at_members}
use Rattle.pw_model.specs.Operations.{opening_at}
use Rattle.pw_cppc.specs.declared.parts.Control.{Control}
use Rattle.pw_cppc.specs.declared.parts.Control.TheVariants as controls
use Rattle.pw_cppc.specs.declared.plan.CppcPlan.{CppcPlan}
use Rattle.pw_cppc.specs.Controls.{IsFitMember, IsStart, said_by}
use Rattle.pw_cppc.specs.Operations.{opening_ops, opening_ops_of, range_ops, set_in, set_on}
use Rattle.pw_cppc.specs.Parts.{highest_of, lowest_of, register_of}
use Rattle.pw_cppc.specs.Planning.{domain_at, parts_at}
use Rattle.pw_cppc.specs.States.{maximum_of, minimum_of, opening, standing}
use Rattle.pw_cppc.proofs.MembersAsked.{own_number}
use Rattle.pw_cppc.proofs.Starting.{exists, maximum_at_start, minimum_at_start}

-- # Lists that are put together

pub each_of : {X : Type 0} (Q : X → Type 0) (f : ℕ → List X) (ms : List ℕ) → ((q : ℕ) → has_member ms q ≡ true → AllByRecursion Q (f q)) → AllByRecursion Q (flat_map f ms)
each_of Q f [] h = tt
each_of Q f (m ∷ ms) h = each_append Q (f m) (flat_map f ms) (h m (or_left (m == m) (has_member ms m) (own_number m))) (each_of Q f ms (λ q e. h q (or_right (m == q) (has_member ms q) e)))

pub in_of : {X : Type 0} (f : ℕ → List X) (ms : List ℕ) (q : ℕ) (z : X) → has_member ms q ≡ true → In z (f q) → In z (flat_map f ms)
in_of f [] q z e i = cc
in_of f (m ∷ ms) q z e i = step (m == q) refl e (λ g. in_of f ms q z g i)
  where
    step : (b : Bool) → (m == q) ≡ b → (b || has_member ms q) ≡ true → (has_member ms q ≡ true → In z (flat_map f ms)) → In z (f m ++ flat_map f ms)
    step true h g later = in_left (f m) (flat_map f ms) z (subst (λ k. In z (f k)) (sym (eqb-true m q h)) i)
    step false h g later = in_right (f m) (flat_map f ms) z (later g)

pub contains : {X : Type 0} (xs : List X) (z : X) → In z xs → Contains xs z
contains [] z i = absurd i
contains (x ∷ xs) z (inl e) = (0, omega arith, sym e)
contains (x ∷ xs) z (inr i) = let r = contains xs z i in (suc r.0, omega (arith, r.1), r.2)

-- # On whom desired performance is set

first_only : (x : Coord) (ms : List ℕ) (q : ℕ) → x ≡ SwAny → has_member (opening_at x ms) q ≡ true → q ≡ first_of ms
first_only SwAll ms q e m = cc
first_only HwAll ms q e m = cc
first_only SwAny [] q e m = cc
first_only SwAny (p ∷ ms) q e m = sym (the_member p q m)

first_has : (x : Coord) (ms : List ℕ) (q : ℕ) → (x ≡ SwAny → q ≡ first_of ms) → has_member ms q ≡ true → has_member (opening_at x ms) q ≡ true
first_has SwAll ms q h m = m
first_has HwAll ms q h m = m
first_has SwAny [] q h m = m
first_has SwAny (p ∷ ms) q h m = or_left (p == q) false (eq-eqb p q (sym (h refl)))

-- # Each operation

module _ (P : CppcPlan) where
  pub each_set : (Q : Op → Type 0) (c : Control) (q v : ℕ) → ((r : Register) → register_of c (parts_at P q) ≡ Some r → Q (op.Set q r v)) → AllByRecursion Q (set_on P c q v)
  each_set Q c q v h = step (register_of c (parts_at P q)) refl
    where
      step : (o : Option Register) → register_of c (parts_at P q) ≡ o → AllByRecursion Q (set_in o q v)
      step None e = tt
      step (Some r) e = (h r e, tt)

  pub set_there : (c : Control) (q v : ℕ) (r : Register) → register_of c (parts_at P q) ≡ Some r → In (op.Set q r v) (set_on P c q v)
  set_there c q v r e = subst (λ o. In (op.Set q r v) (set_in o q v)) (sym e) (inl refl)

  module _ (d : ℕ) (lt : d < length P.domains) (fit : (domain_at P d).unfit ≡ 0) where
    abbrev ms : List ℕ
    ms = (domain_at P d).members

    on : (q : ℕ) → has_member ms q ≡ true → IsFitMember P d q
    on q m = record { exists = lt; fit = fit; member = m }

    range_starts : (q : ℕ) → has_member ms q ≡ true → AllByRecursion (IsStart P) (range_ops P q)
    range_starts q m =
        let there = exists P d lt fit q m in
        each_append (IsStart P) (set_on P controls.Minimum q (lowest_of (parts_at P q))) (set_on P controls.Maximum q (highest_of (parts_at P q)))
        (each_set (IsStart P) controls.Minimum q (lowest_of (parts_at P q)) (λ r e. record {
          domain = d;
          cpu = q;
          on = on q m;
          control = controls.Minimum;
          first = λ same any. cc;
          register = r;
          has = e;
          is = ap (op.Set q r) (sym (minimum_at_start P q there));
        }))
        (each_set (IsStart P) controls.Maximum q (highest_of (parts_at P q)) (λ r e. record {
          domain = d;
          cpu = q;
          on = on q m;
          control = controls.Maximum;
          first = λ same any. cc;
          register = r;
          has = e;
          is = ap (op.Set q r) (sym (maximum_at_start P q there));
        }))

    desired_starts : (q : ℕ) → has_member (opening_at (domain_at P d).coord ms) q ≡ true → AllByRecursion (IsStart P) (set_on P controls.Desired q (standing P (opening P) d q))
    desired_starts q m = each_set (IsStart P) controls.Desired q (standing P (opening P) d q) (λ r e. record {
      domain = d;
      cpu = q;
      on = on q (opening_at_members (domain_at P d).coord ms q m);
      control = controls.Desired;
      first = λ same any. first_only (domain_at P d).coord ms q any m;
      register = r;
      has =
          e;
      is = refl;
    })

  domain_starts : (d : ℕ) → d < length P.domains → AllByRecursion (IsStart P) (opening_ops_of P d)
  domain_starts d lt = step ((domain_at P d).unfit == 0) refl
    where
      step : (b : Bool) → ((domain_at P d).unfit == 0) ≡ b
          → AllByRecursion (IsStart P) (cond b (flat_map (range_ops P) (domain_at P d).members ++ flat_map (λ p. set_on P controls.Desired p (standing P (opening P) d p))
          (opening_at (domain_at P d).coord (domain_at P d).members)) [])
      step false e = tt
      step true e =
          let fit = eqb-true (domain_at P d).unfit 0 e in
          each_append (IsStart P) (flat_map (range_ops P) (domain_at P d).members) (flat_map (λ p. set_on P controls.Desired p (standing P (opening P) d p))
          (opening_at (domain_at P d).coord (domain_at P d).members))
          (each_of (IsStart P) (range_ops P) (domain_at P d).members (range_starts d lt fit))
          (each_of (IsStart P) (λ p. set_on P controls.Desired p (standing P (opening P) d p)) (opening_at (domain_at P d).coord (domain_at P d).members) (desired_starts d lt fit))

  pub all_start : AllByRecursion (IsStart P) (opening_ops P)
  unfolding opening_ops
  all_start = each_flat_map (IsStart P) (opening_ops_of P) 0 (length P.domains) (λ d le lt. domain_starts d (rw zero-add at lt))

  -- # And each that is to be there

  in_domain : (d : ℕ) (z : Op) → (domain_at P d).unfit ≡ 0
      → In z (flat_map (range_ops P) (domain_at P d).members ++ flat_map (λ p. set_on P controls.Desired p (standing P (opening P) d p)) (opening_at (domain_at P d).coord (domain_at P d).members))
      → In z (opening_ops_of P d)
  in_domain d z fit i = let fits : ((domain_at P d).unfit == 0) ≡ true = eq-eqb (domain_at P d).unfit 0 fit in rw fits i

  module _ (d q : ℕ) (on : IsFitMember P d q) (r : Register) where
    bounds : (v : ℕ) → In (op.Set q r v) (range_ops P q) → In (op.Set q r v) (opening_ops_of P d)
    bounds v i = in_domain d (op.Set q r v) on.fit
        (in_left (flat_map (range_ops P) (domain_at P d).members) (flat_map (λ p. set_on P controls.Desired p (standing P (opening P) d p)) (opening_at (domain_at P d).coord (domain_at P d).members))
        (op.Set q r v)
        (in_of (range_ops P) (domain_at P d).members q (op.Set q r v) on.member i))

    said : (c : Control) → (c ≡ controls.Desired → (domain_at P d).coord ≡ SwAny → q ≡ first_of (domain_at P d).members) → register_of c (parts_at P q) ≡ Some r
        → In (op.Set q r (said_by c P (opening P) d q)) (opening_ops_of P d)
    said controls.Desired first has = in_domain d (op.Set q r (standing P (opening P) d q)) on.fit
        (in_right (flat_map (range_ops P) (domain_at P d).members) (flat_map (λ p. set_on P controls.Desired p (standing P (opening P) d p)) (opening_at (domain_at P d).coord (domain_at P d).members))
        (op.Set q r (standing P (opening P) d q))
        (in_of (λ p. set_on P controls.Desired p (standing P (opening P) d p)) (opening_at (domain_at P d).coord (domain_at P d).members) q (op.Set q r (standing P (opening P) d q))
        (first_has (domain_at P d).coord (domain_at P d).members q (first refl) on.member)
        (set_there controls.Desired q (standing P (opening P) d q) r has)))
    said controls.Minimum first has = bounds (minimum_of (opening P) q)
        (in_left (set_on P controls.Minimum q (lowest_of (parts_at P q))) (set_on P controls.Maximum q (highest_of (parts_at P q))) (op.Set q r (minimum_of (opening P) q))
        (subst (λ v. In (op.Set q r v) (set_on P controls.Minimum q (lowest_of (parts_at P q)))) (sym (minimum_at_start P q (exists P d on.exists on.fit q on.member)))
        (set_there controls.Minimum q (lowest_of (parts_at P q)) r has)))
    said controls.Maximum first has = bounds (maximum_of (opening P) q)
        (in_right (set_on P controls.Minimum q (lowest_of (parts_at P q))) (set_on P controls.Maximum q (highest_of (parts_at P q))) (op.Set q r (maximum_of (opening P) q))
        (subst (λ v. In (op.Set q r v) (set_on P controls.Maximum q (highest_of (parts_at P q)))) (sym (maximum_at_start P q (exists P d on.exists on.fit q on.member)))
        (set_there controls.Maximum q (highest_of (parts_at P q)) r has)))

  pub start_there : (o : Op) → IsStart P o → Contains (opening_ops P) o
  unfolding opening_ops
  start_there o h = contains (opening_ops P) o (subst (λ z. In z (opening_ops P)) (sym h.is)
      (in_flat_map (opening_ops_of P) 0 (length P.domains) h.domain (op.Set h.cpu h.register (said_by h.control P (opening P) h.domain h.cpu)) (omega arith) (rw zero-add h.on.exists)
      (said h.domain h.cpu h.on h.register h.control h.first h.has)))
