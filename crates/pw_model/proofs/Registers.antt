-- The control register of a member of a fit SW_ALL or HW_ALL domain has the value of the state in which the member stands.
use Rattle.std.proofs.Common.{◌≡◌, ◌≢◌, ◌<◌, ◌==◌, ℕ, Bool, true, false, cond, List, [], ◌∷◌, ◌++◌, map, length, Option, Some, None, refl, ap, sym, subst, ◌∙◌, inl, inr, arith, zero-add, append-nil}
use Rattle.std.specs.Prelude.{is_some, nat_lt}
use Rattle.std.specs.Option.{option_and_then}
use Rattle.std.proofs.lemmas.List.Sums.{passes_at_first}
use Rattle.std.proofs.lemmas.Bool.{cases_eq}
use Rattle.std.proofs.lemmas.Bool.Decides.{nat_tests}
use Rattle.acpi_values.specs.declared.dependency.Coord.{Coord}
use Rattle.acpi_values.specs.declared.dependency.Coord.TheVariants.{SwAll, SwAny, HwAll}
use Rattle.acpi_values.specs.declared.operation.Op.{Op}
use Rattle.acpi_values.specs.declared.operation.Op.TheVariants as op
use Rattle.acpi_values.specs.declared.register.Register.{Register}
use Rattle.pw_plan.specs.declared.domain.DomainKind.{DomainKind}
use Rattle.pw_plan.specs.declared.domain.DomainKind.TheVariants as kinds
use Rattle.pw_plan.specs.declared.parts.Scale.{Scale}
use Rattle.pw_plan.specs.declared.plan.Plan.{Plan}
use Rattle.pw_plan.specs.Domains.{has_register}
use Rattle.pw_plan.specs.Groups.{has_member, is_idle, is_software, no_domain}
use Rattle.pw_plan.specs.Parts.{scale_of}
use Rattle.pw_plan.specs.Places.{cpu_at, domain_at, domain_of}
use Rattle.pw_plan.specs.Covering.{covers, same_kind}
use Rattle.pw_plan.proofs.Firsts.{same_by, same_from}
use Rattle.pw_plan.proofs.Lists.{and_first, and_second, or_left}
use Rattle.pw_plan.proofs.Placing.{the_member}
use Rattle.pw_model.specs.declared.state.Change.{Change}
use Rattle.pw_model.specs.declared.state.State.{State}
use Rattle.pw_model.specs.States.{opening, with_change}
use Rattle.pw_model.specs.Domains.{standing}
use Rattle.pw_model.specs.Refusals.{domain_refusal}
use Rattle.pw_model.specs.Operations.{control_of, domain_ops, opening_at, opening_ops, opening_ops_of, register_of, set_at, set_on}
use Rattle.pw_model.specs.Laws.{HasOwnRegisters, IsLastSet, IsSetToStanding, control_register, standing_value}
use Rattle.pw_model.proofs.Accepting.{domain_from}
use Rattle.pw_model.proofs.LastSets.{Untouched, last_append, last_before, mapped, set_in, set_members}
use Rattle.pw_model.proofs.Standings.{Spares, standing-any, standing-own, standing-spared}

-- # Who has a domain

-- the register of a scale that has one
record HasRegister (s : Option Scale) : Type 0 where
  register : Register
  is : option_and_then (λ (scale : Scale). scale.register) s ≡ Some register
  of : register_of s ≡ register

register_some : (s : Option Scale) → is_some s ≡ true → has_register s ≡ true → HasRegister s
register_some None e f = cc
register_some (Some s) e f = by s.register refl f
  where
    by : (r : Option Register) → s.register ≡ r → is_some r ≡ true → HasRegister (Some s)
    by None is f = cc
    by (Some r) is f = record { register = r; is = is; of = rw is refl }

module _ (P : Plan) where
  -- domain e is of this kind of performance or throttling, and fit
  pub record IsFit (e : ℕ) : Type 0 where
    pub exists : e < length P.domains
    pub kind : is_idle (domain_at P e).kind ≡ false
    pub fit : (domain_at P e).unfit ≡ 0

  member_register : (e q : ℕ) → IsFit e → has_member (domain_at P e).members q ≡ true → HasRegister (scale_of (domain_at P e).kind (cpu_at P q))
  member_register e q f member = register_some (scale_of (domain_at P e).kind (cpu_at P q))
      (P.sound.domains.scaled e no_domain f.exists q f.kind member) (P.sound.domains.registered e no_domain f.exists q f.fit member)

  -- the domain of its kind that has the processor
  pub place_is : (e q : ℕ) → e < length P.domains → is_idle (domain_at P e).kind ≡ false → has_member (domain_at P e).members q ≡ true → domain_of P (domain_at P e).kind q ≡ e
  place_is e q lt idle member = P.sound.domains.only (domain_at P e).kind e q lt idle (rw (same_by (domain_at P e).kind, member) refl)

  -- two fit domains of one processor are one, or set different registers
  apart : (d e p : ℕ) → IsFit d → IsFit e → has_member (domain_at P d).members p ≡ true → has_member (domain_at P e).members p ≡ true → HasOwnRegisters P p
      → register_of (scale_of (domain_at P e).kind (cpu_at P p)) ≡ register_of (scale_of (domain_at P d).kind (cpu_at P p)) → e ≡ d
  apart d e p fd fe in_d in_e own same = by (domain_at P d).kind (domain_at P e).kind refl refl fd.kind fe.kind (member_register d p fd in_d) (member_register e p fe in_e) same
      (place_is d p fd.exists fd.kind in_d) (place_is e p fe.exists fe.kind in_e)
    where
      clash : (r s : Register) → r ≡ s → control_register kinds.Perf (cpu_at P p) ≡ Some r → control_register kinds.Throttle (cpu_at P p) ≡ Some s → ⊥
      clash r s same a b = own r a (b ∙ ap (λ x. Some x) (sym same))

      by : (a b : DomainKind) → (domain_at P d).kind ≡ a → (domain_at P e).kind ≡ b → is_idle a ≡ false → is_idle b ≡ false
          → HasRegister (scale_of a (cpu_at P p)) → HasRegister (scale_of b (cpu_at P p)) → register_of (scale_of b (cpu_at P p)) ≡ register_of (scale_of a (cpu_at P p))
          → domain_of P a p ≡ d → domain_of P b p ≡ e → e ≡ d
      by kinds.Perf kinds.Perf x y i j r s same at_d at_e = sym at_e ∙ at_d
      by kinds.Throttle kinds.Throttle x y i j r s same at_d at_e = sym at_e ∙ at_d
      by kinds.Perf kinds.Throttle x y i j r s same at_d at_e = absurd (clash r.register s.register (sym r.of ∙ sym same ∙ s.of) r.is s.is)
      by kinds.Throttle kinds.Perf x y i j r s same at_d at_e = absurd (clash s.register r.register (sym s.of ∙ same ∙ r.of) s.is r.is)
      by kinds.Idle b x y i j r s same at_d at_e = cc
      by kinds.Perf kinds.Idle x y i j r s same at_d at_e = cc
      by kinds.Throttle kinds.Idle x y i j r s same at_d at_e = cc

-- # On whom a state is set

pub set_on_other : (P : Plan) (kind : DomainKind) (s q p : ℕ) (r : Register) → q ≢ p → (w : ℕ) → set_on P kind s q ≢ op.Set p r w
set_on_other P kind s q p r other w e = other (cpu_same e)
  where
    cpu_same : set_on P kind s q ≡ op.Set p r w → q ≡ p
    cpu_same e = cc

pub set_at_members : (coord : Coord) (ms : List ℕ) (p q : ℕ) → has_member ms p ≡ true → has_member (set_at coord ms p) q ≡ true → has_member ms q ≡ true
set_at_members SwAll ms p q on e = e
set_at_members SwAny ms p q on e = rw (the_member p q e) at on
set_at_members HwAll ms p q on e = rw (the_member p q e) at on

pub opening_at_members : (coord : Coord) (ms : List ℕ) (q : ℕ) → has_member (opening_at coord ms) q ≡ true → has_member ms q ≡ true
opening_at_members SwAll ms q e = e
opening_at_members SwAny [] q e = e
opening_at_members SwAny (m ∷ ms) q e = or_left (m == q) (has_member ms q) (let same : m ≡ q = the_member m q e in grind (arith, nat_tests))
opening_at_members HwAll ms q e = e

-- # The domain of an accepted request

pub record Found (P : Plan) (kind : DomainKind) (q : ℕ) : Type 0 where
  pub fit : IsFit P (domain_of P kind q)
  pub is : (domain_at P (domain_of P kind q)).kind ≡ kind
  pub member : has_member (domain_at P (domain_of P kind q)).members q ≡ true

pub found : (P : Plan) (kind : DomainKind) (q : ℕ) → q < length P.cpus → domain_refusal P kind q (scale_of kind (cpu_at P q)) ≡ None → is_idle kind ≡ false → Found P kind q
found P kind q exists accepted scaled =
    let fine = domain_from P kind q (scale_of kind (cpu_at P q)) accepted in
    let lt : domain_of P kind q < length P.domains = P.sound.domains.placed kind q exists fine.0 in
    let covered : covers kind q (domain_at P (domain_of P kind q)) ≡ true = passes_at_first (covers kind q) P.domains no_domain lt in
    let is = same_from (domain_at P (domain_of P kind q)).kind kind (and_first (same_kind (domain_at P (domain_of P kind q)).kind kind) (has_member (domain_at P (domain_of P kind q)).members q)
    covered) in
    record {
      fit = record { exists = lt; kind = ap is_idle is ∙ scaled; fit = fine.1 };
      is = is;
      member = and_second (same_kind (domain_at P (domain_of P kind q)).kind kind) (has_member (domain_at P (domain_of P kind q)).members q) covered;
    }

-- # One member of one domain

-- what another domain sets is another register
pub elsewhere : (P : Plan) (d p : ℕ) → IsFit P d → has_member (domain_at P d).members p ≡ true → HasOwnRegisters P p → (e q s : ℕ) → IsFit P e → has_member (domain_at P e).members q ≡ true
    → e ≢ d → (w : ℕ) → set_on P (domain_at P e).kind s q ≢ op.Set p (register_of (scale_of (domain_at P d).kind (cpu_at P p))) w
elsewhere P d p fits in_d own e q s fit member other w same =
    let cpu : q ≡ p = cc in
    let reg : register_of (scale_of (domain_at P e).kind (cpu_at P q)) ≡ register_of (scale_of (domain_at P d).kind (cpu_at P p)) = cc in
    other (apart P d e p fits fit in_d (rw cpu at member) own (rw cpu at reg))

-- who is set wherever the domain stands anew: not any one member alone
abbrev pub is_each : Coord → Bool
is_each SwAll = true
is_each SwAny = false
is_each HwAll = true

pub record IsSetOnEach (P : Plan) (d p : ℕ) : Type 0 where
  pub exists : d < length P.domains
  pub kind : is_idle (domain_at P d).kind ≡ false
  pub coord : is_each (domain_at P d).coord ≡ true
  pub fit : (domain_at P d).unfit ≡ 0
  pub member : has_member (domain_at P d).members p ≡ true

module _ (P : Plan) (d p : ℕ) (on : IsSetOnEach P d p) (own : HasOwnRegisters P p) where
  abbrev pub the_register : Register
  the_register = register_of (scale_of (domain_at P d).kind (cpu_at P p))

  -- its register was last set to where the domain stands
  abbrev pub Stands : State → List Op → Type 0
  Stands S ops = IsSetToStanding P S d p ops

  is_fit : IsFit P d
  is_fit = record { exists = on.exists; kind = on.kind; fit = on.fit }

  -- # At the start

  opening_here : Stands (opening P) (opening_ops_of P d)
  opening_here = step (is_idle (domain_at P d).kind) (nat_lt 0 (domain_at P d).unfit) (domain_at P d).coord on.kind (let fit = on.fit in grind (arith, nat_tests, fit)) on.coord
    where
      step : (a b : Bool) (x : Coord) → a ≡ false → b ≡ false → is_each x ≡ true
          → Stands (opening P) (cond a [] (cond b [] (map (λ q. set_on P (domain_at P d).kind (standing P (opening P) d q) q) (opening_at x (domain_at P d).members))))
      step true b x e f g = cc
      step false true x e f g = cc
      step false false SwAny e f g = cc
      step false false SwAll e f g = set_members p the_register (standing_value P (opening P) d p)
          (λ q. set_on P (domain_at P d).kind (standing P (opening P) d q) q) (domain_at P d).members on.member refl
          (λ q other w. set_on_other P (domain_at P d).kind (standing P (opening P) d q) q p the_register other w)
      step false false HwAll e f g = set_members p the_register (standing_value P (opening P) d p)
          (λ q. set_on P (domain_at P d).kind (standing P (opening P) d q) q) (domain_at P d).members on.member refl
          (λ q other w. set_on_other P (domain_at P d).kind (standing P (opening P) d q) q p the_register other w)

  opening_elsewhere : (e : ℕ) → e < length P.domains → e ≢ d → Untouched p the_register (opening_ops_of P e)
  opening_elsewhere e lt other = step (is_idle (domain_at P e).kind) (nat_lt 0 (domain_at P e).unfit) refl refl
    where
      step : (a b : Bool) → is_idle (domain_at P e).kind ≡ a → nat_lt 0 (domain_at P e).unfit ≡ b
          → Untouched p the_register
          (cond a [] (cond b [] (map (λ q. set_on P (domain_at P e).kind (standing P (opening P) e q) q) (opening_at (domain_at P e).coord (domain_at P e).members))))
      step true b x y = tt
      step false true x y = tt
      step false false x y = mapped (λ o. (w : ℕ) → o ≢ op.Set p the_register w)
          (λ q. set_on P (domain_at P e).kind (standing P (opening P) e q) q) (opening_at (domain_at P e).coord (domain_at P e).members)
          (λ q g. elsewhere P d p is_fit on.member own e q (standing P (opening P) e q) (record { exists = lt; kind = x; fit = grind (arith, nat_tests) })
          (opening_at_members (domain_at P e).coord (domain_at P e).members q g) other)

  pub opening_stands : Stands (opening P) (opening_ops P)
  unfolding opening_ops
  opening_stands = set_in p the_register (standing_value P (opening P) d p) (opening_ops_of P) d 0 (length P.domains) (omega arith) (rw zero-add on.exists) opening_here
      (λ q lt other. opening_elsewhere q (rw zero-add at lt) other)

  -- where the domain still stands the same, the register is still right
  pub moved : (S T : State) (ops : List Op) → standing P S d p ≡ standing P T d p → Stands S ops → Stands T ops
  moved S T ops e last = subst (λ s. IsLastSet p the_register (control_of (scale_of (domain_at P d).kind (cpu_at P p)) s) ops) e last

  -- # A request on a domain of performance or throttling

  module _ (S : State) (c : Change) (kind : DomainKind) (q : ℕ) (exists : q < length P.cpus) (accepted : domain_refusal P kind q (scale_of kind (cpu_at P q)) ≡ None)
      (scaled : is_idle kind ≡ false) (spares : (k : DomainKind) (m : ℕ) → (k ≡ kind → m ≢ q) → Spares c k m) where
    has_found : Found P kind q
    has_found = found P kind q exists accepted scaled

    -- on the domain itself, that software coordinates
    here_all : (T : State) (ops : List Op) (k : DomainKind) → (domain_at P d).kind ≡ k → is_software (domain_at P d).coord ≡ true → Stands S ops → (b : Bool)
        → (standing P S d q == standing P T d q) ≡ b
        → Stands T (ops ++ cond b [] (map (set_on P k (standing P T d q)) (domain_at P d).members))
    here_all T ops k is software last true e =
        let same : standing P S d q ≡ standing P T d q = grind (arith, nat_tests) in
        rw append-nil (moved S T ops (standing-any P S d p q software ∙ same ∙ standing-any P T d q p software) last)
    here_all T ops k is software last false e = last_before p the_register (standing_value P T d p) ops (map (set_on P k (standing P T d q)) (domain_at P d).members)
        (set_members p the_register (standing_value P T d p) (set_on P k (standing P T d q)) (domain_at P d).members on.member
        (ap (λ j. set_on P j (standing P T d q) p) (sym is) ∙ ap (λ s. set_on P (domain_at P d).kind s p) (standing-any P T d q p software))
        (λ m other w. set_on_other P k (standing P T d q) m p the_register other w))

    -- or hardware, by the member itself
    here_self : (T : State) (ops : List Op) (k : DomainKind) → (domain_at P d).kind ≡ k → Stands S ops → (b : Bool) → (standing P S d p == standing P T d p) ≡ b
        → Stands T (ops ++ cond b [] (set_on P k (standing P T d p) p ∷ []))
    here_self T ops k is last true e =
        let same : standing P S d p ≡ standing P T d p = grind (arith, nat_tests) in
        rw append-nil (moved S T ops same last)
    here_self T ops k is last false e = last_before p the_register (standing_value P T d p) ops (set_on P k (standing P T d p) p ∷ [])
        (record { before = []; later = []; set = ap (λ j. set_on P j (standing P T d p) p ∷ []) (sym is); none_later = tt })

    -- or by another member
    here_other : (ops : List Op) (k : DomainKind) → is_software (domain_at P d).coord ≡ false → q ≢ p → Stands S ops → (b : Bool)
        → Stands (with_change S c) (ops ++ cond b [] (set_on P k (standing P (with_change S c) d q) q ∷ []))
    here_other ops k hardware other last b = last_append p the_register (standing_value P (with_change S c) d p) ops (cond b [] (set_on P k (standing P (with_change S c) d q) q ∷ []))
        (moved S (with_change S c) ops (sym (standing-own P S c d p hardware (spares (domain_at P d).kind p (λ is same. other (sym same))))) last) (step b)
      where
        step : (b : Bool) → Untouched p the_register (cond b [] (set_on P k (standing P (with_change S c) d q) q ∷ []))
        step true = tt
        step false = (λ w. set_on_other P k (standing P (with_change S c) d q) q p the_register other w, tt)

    here : (ops : List Op) (k : DomainKind) → (domain_at P d).kind ≡ k → Stands S ops
        → Stands (with_change S c) (ops ++ cond (standing P S d q == standing P (with_change S c) d q) [] (map (set_on P k (standing P (with_change S c) d q))
        (set_at (domain_at P d).coord (domain_at P d).members q)))
    here ops k is last = step (domain_at P d).coord refl on.coord
      where
        step : (x : Coord) → (domain_at P d).coord ≡ x → is_each x ≡ true
            → Stands (with_change S c) (ops ++ cond (standing P S d q == standing P (with_change S c) d q) [] (map (set_on P k (standing P (with_change S c) d q))
            (set_at x (domain_at P d).members q)))
        step SwAny e f = cc
        step SwAll e f = here_all (with_change S c) ops k is (ap is_software e) last (standing P S d q == standing P (with_change S c) d q) refl
        step HwAll e f = elim (cases_eq q p) [
          | inl same ↦ subst (λ i. Stands (with_change S c) (ops ++ cond (standing P S d i == standing P (with_change S c) d i) [] (set_on P k (standing P (with_change S c) d i) i ∷ []))) (sym same)
              (here_self (with_change S c) ops k is last (standing P S d p == standing P (with_change S c) d p) refl)
          | inr other ↦ here_other ops k (ap is_software e) other last (standing P S d q == standing P (with_change S c) d q)
        ]

    -- on another one
    away : (ops : List Op) → domain_of P kind q ≢ d → Stands S ops → Stands (with_change S c) (ops ++ domain_ops P S (with_change S c) kind q)
    away ops other last =
        last_append p the_register (standing_value P (with_change S c) d p) ops (domain_ops P S (with_change S c) kind q)
        (moved S (with_change S c) ops (sym (standing-spared P S c d p on.member spared)) last)
        (step (standing P S (domain_of P kind q) q == standing P (with_change S c) (domain_of P kind q) q))
      where
        spared : (m : ℕ) → has_member (domain_at P d).members m ≡ true → Spares c (domain_at P d).kind m
        spared m in_d = spares (domain_at P d).kind m (λ is same.
            other (ap (λ k. domain_of P k q) (sym is) ∙ place_is P d q on.exists on.kind (rw same at in_d)))

        step : (b : Bool) → Untouched p the_register
            (cond b [] (map (set_on P kind (standing P (with_change S c) (domain_of P kind q) q)) (set_at (domain_at P (domain_of P kind q)).coord (domain_at P (domain_of P kind q)).members q)))
        step true = tt
        step false = mapped (λ o. (w : ℕ) → o ≢ op.Set p the_register w)
            (set_on P kind (standing P (with_change S c) (domain_of P kind q) q)) (set_at (domain_at P (domain_of P kind q)).coord (domain_at P (domain_of P kind q)).members q)
            (λ m g. subst (λ k. (w : ℕ) → set_on P k (standing P (with_change S c) (domain_of P kind q) q) m ≢ op.Set p the_register w) has_found.is
            (elsewhere P d p is_fit on.member own (domain_of P kind q) m (standing P (with_change S c) (domain_of P kind q) q) has_found.fit
            (set_at_members (domain_at P (domain_of P kind q)).coord (domain_at P (domain_of P kind q)).members q m has_found.member g) other))

    pub domain_stands : (ops : List Op) → Stands S ops → Stands (with_change S c) (ops ++ domain_ops P S (with_change S c) kind q)
    domain_stands ops last = elim (cases_eq (domain_of P kind q) d) [
      | inl e ↦ on_it (domain_of P kind q) e has_found.is
      | inr e ↦ away ops e last
    ]
      where
        on_it : (e : ℕ) → e ≡ d → (domain_at P e).kind ≡ kind
            → Stands (with_change S c) (ops ++ cond (standing P S e q == standing P (with_change S c) e q) [] (map (set_on P kind (standing P (with_change S c) e q))
            (set_at (domain_at P e).coord (domain_at P e).members q)))
        on_it e same is = subst (λ i. Stands (with_change S c) (ops ++ cond (standing P S i q == standing P (with_change S c) i q) []
            (map (set_on P kind (standing P (with_change S c) i q)) (set_at (domain_at P i).coord (domain_at P i).members q)))) (sym same)
            (here ops kind (ap (λ i. (domain_at P i).kind) (sym same) ∙ is) last)
