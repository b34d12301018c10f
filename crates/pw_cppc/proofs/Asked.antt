-- The operations of a request, one by one.
use Rattle.std.proofs.Common.{◌≡◌, ◌≢◌, ◌==◌, ℕ, Bool, true, false, cond, List, [], ◌++◌, Option, Some, None, refl, ap, sym, subst, ◌∙◌, inl, inr, eq-eqb}
use Rattle.std.specs.Prelude.{Contains}
use Rattle.std.specs.List.{flat_map, AllByRecursion}
use Rattle.std.proofs.lemmas.Bool.{eqb-false, ne_eqb}
use Rattle.acpi_values.specs.declared.dependency.Coord.{Coord}
use Rattle.acpi_values.specs.declared.dependency.Coord.TheVariants.{SwAll, SwAny, HwAll}
use Rattle.acpi_values.specs.declared.operation.Op.{Op}
use Rattle.acpi_values.specs.declared.operation.Op.TheVariants as op
use Rattle.acpi_values.specs.declared.register.Register.{Register}
use Rattle.pw_plan.specs.Groups.{has_member}
use Rattle.pw_plan.proofs.Lists.{each_append, or_left}
use Rattle.pw_plan.proofs.Ordered.{In, in_left, in_right}
use Rattle.pw_plan.proofs.Placing.{the_member}
use Rattle.pw_model.specs.Operations.{set_at}
use Rattle.pw_cppc.specs.declared.numbers.CppcNumbers.{CppcNumbers}
use Rattle.pw_cppc.specs.declared.parts.Control.{Control}
use Rattle.pw_cppc.specs.declared.parts.Control.TheVariants as controls
use Rattle.pw_cppc.specs.declared.plan.CppcPlan.{CppcPlan}
use Rattle.pw_cppc.specs.declared.reply.CppcReply.{CppcReply}
use Rattle.pw_cppc.specs.declared.request.CppcRequest.{CppcRequest}
use Rattle.pw_cppc.specs.declared.request.CppcRequest.TheVariants.{Desired, Minimum, Maximum}
use Rattle.pw_cppc.specs.Answers.{after, if_accepted, refusal}
use Rattle.pw_cppc.specs.Controls.{IsFitMember, IsOn, IsSetBy, Moves, said_by}
use Rattle.pw_cppc.specs.Operations.{bound_ops, ops_of, set_on, standing_ops}
use Rattle.pw_cppc.specs.Parts.{register_of}
use Rattle.pw_cppc.specs.Planning.{domain_at, domain_of, parts_at}
use Rattle.pw_cppc.specs.Requests.{cpu_of}
use Rattle.pw_cppc.specs.States.{AreNumbers, changed, maximum_of, minimum_of, standing, stands}
use Rattle.pw_cppc.proofs.Alone.{stands_together}
use Rattle.pw_cppc.proofs.OneNumber.{after_is, leaves}
use Rattle.pw_cppc.proofs.Refused.{at_place, may_ask, the_domain}
use Rattle.pw_cppc.proofs.Starts.{contains, each_of, each_set, in_of, set_there}

refused_ops : (P : CppcPlan) (S : CppcNumbers) (q : CppcRequest) (r : CppcReply) → refusal P S q ≡ Some r → ops_of P S q ≡ []
unfolding ops_of
refused_ops P S q r e = ap (λ o. if_accepted o (λ reply. []) (bound_ops P q ++ standing_ops P S (changed S q) (cpu_of q))) e

accepted_ops : (P : CppcPlan) (S : CppcNumbers) (q : CppcRequest) → refusal P S q ≡ None → ops_of P S q ≡ bound_ops P q ++ standing_ops P S (after P S q) (cpu_of q)
unfolding ops_of
accepted_ops P S q e =
    ap (λ o. if_accepted o (λ reply. []) (bound_ops P q ++ standing_ops P S (changed S q) (cpu_of q))) e
    ∙ ap (λ T. bound_ops P q ++ standing_ops P S T (cpu_of q)) (sym (after_is P S q e))

-- the processor of an accepted request is in a fit domain
pub asks_in : (P : CppcPlan) (S : CppcNumbers) (q : CppcRequest) → refusal P S q ≡ None → IsFitMember P (domain_of P (cpu_of q)) (cpu_of q)
asks_in P S q e =
    let fit = (may_ask P S q e).scaled.fit in
    let place = at_place P (cpu_of q) fit.table in
    record { exists = place.0; fit = the_domain P (cpu_of q) 0 fit; member = place.1 }

-- # On whom

who : (P : CppcPlan) (p d m : ℕ) (x : Coord) → (domain_at P d).coord ≡ x → has_member (set_at x (domain_at P d).members p) m ≡ true → IsOn P p d controls.Desired m
who P p d m SwAll e g = inr (refl, e, g)
who P p d m SwAny e g = inl (sym (the_member p m g))
who P p d m HwAll e g = inl (sym (the_member p m g))

on_whom : (P : CppcPlan) (p d m : ℕ) (x : Coord) → (domain_at P d).coord ≡ x → has_member (domain_at P d).members p ≡ true → IsOn P p d controls.Desired m
    → has_member (set_at x (domain_at P d).members p) m ≡ true
on_whom P p d m SwAll e own (inl same) = ap (has_member (domain_at P d).members) same ∙ own
on_whom P p d m SwAll e own (inr h) = h.2
on_whom P p d m SwAny e own (inl same) = or_left (p == m) false (eq-eqb p m (sym same))
on_whom P p d m SwAny e own (inr h) = let all = h.1 in cc
on_whom P p d m HwAll e own (inl same) = or_left (p == m) false (eq-eqb p m (sym same))
on_whom P p d m HwAll e own (inr h) = let all = h.1 in cc

-- who is set stands as the one who asked
stand_alike : (P : CppcPlan) (S : CppcNumbers) (p d m : ℕ) → IsOn P p d controls.Desired m → standing P S d p ≡ standing P S d m
stand_alike P S p d m (inl same) = ap (standing P S d) (sym same)
stand_alike P S p d m (inr h) = stands_together P S d p m (λ hardware. let all = h.1 in let clash : SwAll ≡ HwAll = sym all ∙ hardware in cc)

-- itself alone, where it is another control
itself_alone : (P : CppcPlan) (p d m : ℕ) (c : Control) → c ≢ controls.Desired → IsOn P p d c m → m ≡ p
itself_alone P p d m c other (inl same) = same
itself_alone P p d m c other (inr h) = absurd (other h.0)

-- # Each that there is

bounds_only : (P : CppcPlan) (S : CppcNumbers) (q : CppcRequest) → AreNumbers P S → refusal P S q ≡ None → AllByRecursion (IsSetBy P S q) (bound_ops P q)
bounds_only P S (Desired p v) fits e = tt
bounds_only P S (Minimum p v) fits e = each_set P (IsSetBy P S (Minimum p v)) controls.Minimum p v (λ r h. record {
  accepted = e;
  domain = domain_of P p;
  asks = asks_in P S (Minimum p v) e;
  control = controls.Minimum;
  moves = refl;
  cpu = p;
  on = inl refl;
  register = r;
  has = h;
  is = ap (op.Set p r) (sym (leaves P S (Minimum p v) fits e).0.0);
})
bounds_only P S (Maximum p v) fits e = each_set P (IsSetBy P S (Maximum p v)) controls.Maximum p v (λ r h. record {
  accepted = e;
  domain = domain_of P p;
  asks = asks_in P S (Maximum p v) e;
  control = controls.Maximum;
  moves = refl;
  cpu = p;
  on = inl refl;
  register = r;
  has = h;
  is = ap (op.Set p r) (sym (leaves P S (Maximum p v) fits e).0.0);
})

module _ (P : CppcPlan) (S : CppcNumbers) (q : CppcRequest) (accepted : refusal P S q ≡ None) where
  abbrev d : ℕ
  d = domain_of P (cpu_of q)

  abbrev T : CppcNumbers
  T = after P S q

  abbrev set_new : ℕ → List Op
  set_new m = set_on P controls.Desired m (standing P T d (cpu_of q))

  abbrev whom : List ℕ
  whom = set_at (domain_at P d).coord (domain_at P d).members (cpu_of q)

  standing_only : AllByRecursion (IsSetBy P S q) (standing_ops P S T (cpu_of q))
  standing_only = step (stands P S (cpu_of q) == stands P T (cpu_of q)) refl
    where
      step : (b : Bool) → (stands P S (cpu_of q) == stands P T (cpu_of q)) ≡ b → AllByRecursion (IsSetBy P S q) (cond b [] (flat_map set_new whom))
      step true e = tt
      step false e = each_of (IsSetBy P S q) set_new whom (λ m g.
          let on = who P (cpu_of q) d m (domain_at P d).coord refl g in
          each_set P (IsSetBy P S q) controls.Desired m (standing P T d (cpu_of q)) (λ r h. record {
            accepted = accepted;
            domain = d;
            asks = asks_in P S q accepted;
            control = controls.Desired;
            moves = eqb-false (stands P S (cpu_of q)) (stands P T (cpu_of q)) e;
            cpu = m;
            on = on;
            register = r;
            has = h;
            is = ap (op.Set m r) (stand_alike P T (cpu_of q) d m on);
          }))

  -- # Each that is to be there

  desired_there : (m : ℕ) (r : Register) → Moves P S q d controls.Desired → IsOn P (cpu_of q) d controls.Desired m → register_of controls.Desired (parts_at P m) ≡ Some r
      → In (op.Set m r (standing P T d m)) (bound_ops P q ++ standing_ops P S T (cpu_of q))
  desired_there m r moves on has =
      let new : (stands P S (cpu_of q) == stands P T (cpu_of q)) ≡ false = ne_eqb (stands P S (cpu_of q)) (stands P T (cpu_of q)) moves in
      in_right (bound_ops P q) (standing_ops P S T (cpu_of q)) (op.Set m r (standing P T d m))
      (rw new (in_of set_new whom m (op.Set m r (standing P T d m)) (on_whom P (cpu_of q) d m (domain_at P d).coord refl (asks_in P S q accepted).member on)
      (subst (λ v. In (op.Set m r v) (set_new m)) (stand_alike P T (cpu_of q) d m on) (set_there P controls.Desired m (standing P T d (cpu_of q)) r has))))

-- the bound that is named
bound_there : (P : CppcPlan) (c : Control) (p m v : ℕ) (r : Register) (value : ℕ → ℕ) → value p ≡ v → m ≡ p → register_of c (parts_at P m) ≡ Some r → In (op.Set m r (value m)) (set_on P c p v)
bound_there P c p m v r value is same has = subst (λ k. In (op.Set k r (value k)) (set_on P c p v)) (sym same)
    (subst (λ n. In (op.Set p r n) (set_on P c p v)) (sym is) (set_there P c p v r (subst (λ k. register_of c (parts_at P k) ≡ Some r) same has)))

minimum_there : (P : CppcPlan) (S : CppcNumbers) (q : CppcRequest) (m : ℕ) (r : Register) → AreNumbers P S → refusal P S q ≡ None → Moves P S q (domain_of P (cpu_of q)) controls.Minimum → m ≡ cpu_of q
    → register_of controls.Minimum (parts_at P m) ≡ Some r → In (op.Set m r (minimum_of (after P S q) m)) (bound_ops P q)
minimum_there P S (Desired p v) m r fits e moves same has = cc
minimum_there P S (Maximum p v) m r fits e moves same has = cc
minimum_there P S (Minimum p v) m r fits e moves same has = bound_there P controls.Minimum p m v r (minimum_of (after P S (Minimum p v))) (leaves P S (Minimum p v) fits e).0.0 same has

maximum_there : (P : CppcPlan) (S : CppcNumbers) (q : CppcRequest) (m : ℕ) (r : Register) → AreNumbers P S → refusal P S q ≡ None → Moves P S q (domain_of P (cpu_of q)) controls.Maximum → m ≡ cpu_of q
    → register_of controls.Maximum (parts_at P m) ≡ Some r → In (op.Set m r (maximum_of (after P S q) m)) (bound_ops P q)
maximum_there P S (Desired p v) m r fits e moves same has = cc
maximum_there P S (Minimum p v) m r fits e moves same has = cc
maximum_there P S (Maximum p v) m r fits e moves same has = bound_there P controls.Maximum p m v r (maximum_of (after P S (Maximum p v))) (leaves P S (Maximum p v) fits e).0.0 same has

there : (P : CppcPlan) (S : CppcNumbers) (q : CppcRequest) (c : Control) (m : ℕ) (r : Register) → AreNumbers P S → refusal P S q ≡ None
    → Moves P S q (domain_of P (cpu_of q)) c → IsOn P (cpu_of q) (domain_of P (cpu_of q)) c m → register_of c (parts_at P m) ≡ Some r
    → In (op.Set m r (said_by c P (after P S q) (domain_of P (cpu_of q)) m)) (bound_ops P q ++ standing_ops P S (after P S q) (cpu_of q))
there P S q controls.Desired m r fits e moves on has = desired_there P S q e m r moves on has
there P S q controls.Minimum m r fits e moves on has = in_left (bound_ops P q) (standing_ops P S (after P S q) (cpu_of q)) (op.Set m r (minimum_of (after P S q) m))
    (minimum_there P S q m r fits e moves (itself_alone P (cpu_of q) (domain_of P (cpu_of q)) m controls.Minimum (λ z. cc) on) has)
there P S q controls.Maximum m r fits e moves on has = in_left (bound_ops P q) (standing_ops P S (after P S q) (cpu_of q)) (op.Set m r (maximum_of (after P S q) m))
    (maximum_there P S q m r fits e moves (itself_alone P (cpu_of q) (domain_of P (cpu_of q)) m controls.Maximum (λ z. cc) on) has)

-- # All

pub each_is_set : (P : CppcPlan) (S : CppcNumbers) (q : CppcRequest) → AreNumbers P S → AllByRecursion (IsSetBy P S q) (ops_of P S q)
each_is_set P S q fits = step (refusal P S q) refl
  where
    step : (r : Option CppcReply) → refusal P S q ≡ r → AllByRecursion (IsSetBy P S q) (ops_of P S q)
    step (Some r) e = subst (AllByRecursion (IsSetBy P S q)) (sym (refused_ops P S q r e)) tt
    step None e = subst (AllByRecursion (IsSetBy P S q)) (sym (accepted_ops P S q e))
        (each_append (IsSetBy P S q) (bound_ops P q) (standing_ops P S (after P S q) (cpu_of q)) (bounds_only P S q fits e) (standing_only P S q e))

pub set_is_there : (P : CppcPlan) (S : CppcNumbers) (q : CppcRequest) (o : Op) → AreNumbers P S → IsSetBy P S q o → Contains (ops_of P S q) o
set_is_there P S q o fits h = contains (ops_of P S q) o (subst (In o) (sym (accepted_ops P S q h.accepted)) (subst (λ z. In z (bound_ops P q ++ standing_ops P S (after P S q) (cpu_of q))) (sym h.is)
    (subst (λ d. Moves P S q d h.control → IsOn P (cpu_of q) d h.control h.cpu
    → In (op.Set h.cpu h.register (said_by h.control P (after P S q) d h.cpu)) (bound_ops P q ++ standing_ops P S (after P S q) (cpu_of q)))
    (P.sound.only h.domain (cpu_of q) h.asks.exists h.asks.member)
    (λ moves on. there P S q h.control h.cpu h.register fits h.accepted moves on h.has) h.moves h.on)))
