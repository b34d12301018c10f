-- A refusal comes where it is due, and only there.
use Rattle.std.proofs.Common.{◌≡◌, ◌<◌, ◌==◌, ◌||◌, not, ℕ, Bool, true, false, List, length, Option, Some, None, refl, ap, sym, subst, ◌∙◌, inl, inr, arith}
use Rattle.std.specs.Prelude.{is_none, is_some, nat_lt}
use Rattle.std.proofs.lemmas.Bool.{cases_lt, le-ltb, lt-ltb, ltb-false, ltb-true, or_cases, or_from, or_left, or_parts, or_right}
use Rattle.std.proofs.lemmas.Bool.Decides.{nat_tests}
use Rattle.std.proofs.lemmas.List.{get_or_past}
use Rattle.pw_plan.specs.Groups.{has_member}
use Rattle.pw_plan.proofs.Found.{passes}
use Rattle.pw_cppc.specs.declared.numbers.CppcNumbers.{CppcNumbers}
use Rattle.pw_cppc.specs.declared.parts.CppcParts.{CppcParts}
use Rattle.pw_cppc.specs.declared.plan.CppcDomain.{CppcDomain}
use Rattle.pw_cppc.specs.declared.plan.CppcPlan.{CppcPlan}
use Rattle.pw_cppc.specs.declared.reply.CppcReply.{CppcReply}
use Rattle.pw_cppc.specs.declared.reply.CppcReply.TheVariants.{Stands, NoTable, Unfit, OutOfRange, Crossed}
use Rattle.pw_cppc.specs.declared.request.CppcRequest.{CppcRequest}
use Rattle.pw_cppc.specs.declared.request.CppcRequest.TheVariants.{Desired, Minimum, Maximum}
use Rattle.pw_cppc.specs.Answers.{crossing, refusal, refuse_if, ◌or_else◌}
use Rattle.pw_cppc.specs.Causes.{Crosses, CrossesNone, HasDomain, IsDue, IsOffScale, IsOnScale, MayAsk}
use Rattle.pw_cppc.specs.Parts.{has_cpc, highest_of, lowest_of, no_parts}
use Rattle.pw_cppc.specs.Planning.{domain_at, domain_of, parts_at}
use Rattle.pw_cppc.specs.Requests.{cpu_of, value_of}
use Rattle.pw_cppc.specs.Sound.{covers, no_domain}
use Rattle.pw_cppc.specs.States.{maximum_of, minimum_of}

-- the reply is due, or where there is none the request may be made
abbrev Follows : CppcPlan → CppcNumbers → CppcRequest → Option CppcReply → Type 0
Follows P S q None = MayAsk P S q
Follows P S q (Some reply) = IsDue P S q reply

is_none_from : {X : Type 0} (o : Option X) → is_some o ≡ false → is_none o ≡ true
is_none_from None e = refl
is_none_from (Some x) e = cc

is_some_from : {X : Type 0} (o : Option X) → is_none o ≡ false → is_some o ≡ true
is_some_from None e = cc
is_some_from (Some x) e = refl

none_of : {X : Type 0} (o : Option X) → is_none o ≡ true → is_some o ≡ false
none_of None e = refl
none_of (Some x) e = cc

some_of : {X : Type 0} (o : Option X) → is_some o ≡ true → is_none o ≡ false
some_of None e = cc
some_of (Some x) e = refl

-- # The processor's domain

-- who has `_CPC` is a processor
pub has_exists : (ps : List CppcParts) (p : ℕ) → has_cpc ps p ≡ true → p < length ps
unfolding no_parts
has_exists ps p e = elim (cases_lt p (length ps)) [
  | inl lt ↦ lt
  | inr past ↦
      let none : has_cpc ps p ≡ false = ap (λ (c : CppcParts). is_some c.cpc) (get_or_past ps p no_parts past) in
      cc
]

-- and its domain stands at its place
pub at_place : (P : CppcPlan) (p : ℕ) → has_cpc P.cpus p ≡ true → (domain_of P p < length P.domains) × (has_member (domain_at P (domain_of P p)).members p ≡ true)
at_place P p e =
    let lt = P.sound.placed p (has_exists P.cpus p e) e in
    (lt, passes (covers p) P.domains no_domain lt)

in_domain : (P : CppcPlan) (p : ℕ) → has_cpc P.cpus p ≡ true → HasDomain P p (domain_at P (domain_of P p)).unfit
in_domain P p e =
    let place = at_place P p e in
    record { table = e; domain = domain_of P p; exists = place.0; member = place.1; unfit = refl }

-- it is the only one
pub the_domain : (P : CppcPlan) (p why : ℕ) → HasDomain P p why → (domain_at P (domain_of P p)).unfit ≡ why
the_domain P p why h = ap (λ k. (domain_at P k).unfit) (P.sound.only h.domain p h.exists h.member) ∙ h.unfit

-- # Bounds that are crossed

due_crossing : (P : CppcPlan) (S : CppcNumbers) (q : CppcRequest) → IsOnScale P q → Follows P S q (crossing S q)
due_crossing P S (Desired p v) on = record { scaled = on; uncrossed = tt }
due_crossing P S (Minimum p v) on = step (nat_lt (maximum_of S p) v) refl
  where
    step : (b : Bool) → nat_lt (maximum_of S p) v ≡ b → Follows P S (Minimum p v) (refuse_if b (Crossed (maximum_of S p)))
    step true e = (on, (refl, ltb-true (maximum_of S p) v e))
    step false e = record { scaled = on; uncrossed = ltb-false (maximum_of S p) v e }
due_crossing P S (Maximum p v) on = step (nat_lt v (minimum_of S p)) refl
  where
    step : (b : Bool) → nat_lt v (minimum_of S p) ≡ b → Follows P S (Maximum p v) (refuse_if b (Crossed (minimum_of S p)))
    step true e = (on, (refl, ltb-true v (minimum_of S p) e))
    step false e = record { scaled = on; uncrossed = ltb-false v (minimum_of S p) e }

crossed_is : (S : CppcNumbers) (q : CppcRequest) (bound : ℕ) → Crosses S q bound → crossing S q ≡ Some (Crossed bound)
crossed_is S (Desired p v) bound h = absurd h
crossed_is S (Minimum p v) bound h =
    ap (λ b. refuse_if b (Crossed (maximum_of S p))) (lt-ltb (maximum_of S p) v (rw h.0 at h.1)) ∙ ap (λ n. Some (Crossed n)) (sym h.0)
crossed_is S (Maximum p v) bound h =
    ap (λ b. refuse_if b (Crossed (minimum_of S p))) (lt-ltb v (minimum_of S p) (rw h.0 at h.1)) ∙ ap (λ n. Some (Crossed n)) (sym h.0)

uncrossed_is : (S : CppcNumbers) (q : CppcRequest) → CrossesNone S q → crossing S q ≡ None
uncrossed_is S (Desired p v) h = refl
uncrossed_is S (Minimum p v) h = ap (λ b. refuse_if b (Crossed (maximum_of S p))) (le-ltb (maximum_of S p) v h)
uncrossed_is S (Maximum p v) h = ap (λ b. refuse_if b (Crossed (minimum_of S p))) (le-ltb v (minimum_of S p) h)

-- # All refusals

module _ (P : CppcPlan) (S : CppcNumbers) (q : CppcRequest) where
  abbrev c : CppcParts
  c = parts_at P (cpu_of q)

  abbrev its : CppcDomain
  its = domain_at P (domain_of P (cpu_of q))

  abbrev off : Bool
  off = nat_lt (value_of q) (lowest_of c) || nat_lt (highest_of c) (value_of q)

  -- the refusal, by what is asked in order
  abbrev by : Bool → Bool → Bool → Option CppcReply
  by none unfit out = (refuse_if none NoTable or_else refuse_if unfit (Unfit its.unfit) or_else refuse_if out (OutOfRange (lowest_of c) (highest_of c))) or_else crossing S q

  its_domain : is_none c.cpc ≡ false → HasDomain P (cpu_of q) its.unfit
  its_domain e = in_domain P (cpu_of q) (is_some_from c.cpc e)

  fit_domain : is_none c.cpc ≡ false → not (its.unfit == 0) ≡ false → HasDomain P (cpu_of q) 0
  fit_domain e f =
      let h = its_domain e in
      record { table = h.table; domain = h.domain; exists = h.exists; member = h.member; unfit = h.unfit ∙ (let z : its.unfit ≡ 0 = grind (arith, nat_tests) in z) }

  decided : (a b d : Bool) → is_none c.cpc ≡ a → not (its.unfit == 0) ≡ b → off ≡ d → Follows P S q (by a b d)
  decided true b d x y z = none_of c.cpc x
  decided false true d x y z = (its_domain x, grind (arith, nat_tests))
  decided false false true x y z = record {
    fit = fit_domain x y;
    from = refl;
    to = refl;
    off = elim (or_cases (nat_lt (value_of q) (lowest_of c)) (nat_lt (highest_of c) (value_of q)) z) [
      | inl e ↦ inl (ltb-true (value_of q) (lowest_of c) e)
      | inr e ↦ inr (ltb-true (highest_of c) (value_of q) e)
    ];
  }
  decided false false false x y z =
      let on = or_parts (nat_lt (value_of q) (lowest_of c)) (nat_lt (highest_of c) (value_of q)) z in
      due_crossing P S q (record { fit = fit_domain x y; from = ltb-false (value_of q) (lowest_of c) on.0; to = ltb-false (highest_of c) (value_of q) on.1 })

  pub follows : Follows P S q (refusal P S q)
  follows = decided (is_none c.cpc) (not (its.unfit == 0)) off refl refl refl

  -- # And back

  unfit_test : (why : ℕ) → HasDomain P (cpu_of q) why → (its.unfit == 0) ≡ (why == 0)
  unfit_test why h = ap (λ n. n == 0) (the_domain P (cpu_of q) why h)

  has_table : (why : ℕ) → HasDomain P (cpu_of q) why → is_none c.cpc ≡ false
  has_table why h = some_of c.cpc h.table

  -- where the domain is fit, the scale decides
  fit_by : (d : Bool) → HasDomain P (cpu_of q) 0 → off ≡ d → refusal P S q ≡ by false false d
  fit_by d h e = ap (λ a. by a (not (its.unfit == 0)) off) (has_table 0 h) ∙ ap (λ b. by false (not b) off) (unfit_test 0 h) ∙ ap (by false false) e

  on_scale : IsOnScale P q → refusal P S q ≡ crossing S q
  on_scale on = fit_by false on.fit (or_from (nat_lt (value_of q) (lowest_of c)) (nat_lt (highest_of c) (value_of q)) (le-ltb (value_of q) (lowest_of c) on.from)
      (le-ltb (highest_of c) (value_of q) on.to))

  is_off : (lowest highest : ℕ) → IsOffScale P q lowest highest → off ≡ true
  is_off lowest highest h = elim h.off [
    | inl lt ↦ or_left (nat_lt (value_of q) (lowest_of c)) (nat_lt (highest_of c) (value_of q)) (lt-ltb (value_of q) (lowest_of c) (rw h.from at lt))
    | inr lt ↦ or_right (nat_lt (value_of q) (lowest_of c)) (nat_lt (highest_of c) (value_of q)) (lt-ltb (highest_of c) (value_of q) (rw h.to at lt))
  ]

  pub comes : (r : CppcReply) → IsDue P S q r → refusal P S q ≡ Some r
  comes NoTable e = ap (λ a. by a (not (its.unfit == 0)) off) (is_none_from c.cpc e)
  comes (Unfit why) h =
      let some = h.1 in
      let test : not (why == 0) ≡ true = grind (arith, nat_tests) in
      ap (λ a. by a (not (its.unfit == 0)) off) (has_table why h.0)
      ∙ ap (λ b. by false (not b) off) (unfit_test why h.0)
      ∙ ap (λ b. by false b off) test
      ∙ ap (λ n. Some (Unfit n)) (the_domain P (cpu_of q) why h.0)
  comes (OutOfRange lowest highest) h =
      fit_by true h.fit (is_off lowest highest h)
      ∙ ap (λ n. Some (OutOfRange n (highest_of c))) (sym h.from)
      ∙ ap (λ n. Some (OutOfRange lowest n)) (sym h.to)
  comes (Crossed bound) h = on_scale h.0 ∙ crossed_is S q bound h.1
  comes (Stands v) h = absurd h

  pub accepted : MayAsk P S q → refusal P S q ≡ None
  accepted h = on_scale h.scaled ∙ uncrossed_is S q h.uncrossed

  pub may_ask : refusal P S q ≡ None → MayAsk P S q
  may_ask e = subst (Follows P S q) e follows

  pub is_due : (r : CppcReply) → refusal P S q ≡ Some r → IsDue P S q r
  is_due r e = subst (Follows P S q) e follows
