-- The control registers of the members of a SW_ANY domain: the last that is set has the value of where the domain stands.
use Rattle.std.proofs.Common.{◌≡◌, ◌≢◌, ◌<◌, ◌≤◌, ◌+◌, ◌==◌, ℕ, suc, zero, Bool, true, false, cond, List, [], ◌∷◌, ◌++◌, map, length, refl, ap, sym, subst, ◌∙◌, inl, inr, arith, zero-add, append-nil, append_assoc}
use Rattle.std.specs.Prelude.{nat_lt}
use Rattle.std.specs.List.{flat_map, range_with_len, AllByRecursion}
use Rattle.std.proofs.lemmas.Bool.{cases_eq}
use Rattle.std.proofs.lemmas.Bool.Decides.{nat_tests}
use Rattle.acpi_values.specs.declared.dependency.Coord.{Coord}
use Rattle.acpi_values.specs.declared.dependency.Coord.TheVariants.{SwAll, SwAny, HwAll}
use Rattle.acpi_values.specs.declared.operation.Op.{Op}
use Rattle.acpi_values.specs.declared.operation.Op.TheVariants as op
use Rattle.acpi_values.specs.declared.register.Register.{Register}
use Rattle.pw_plan.specs.declared.domain.DomainKind.{DomainKind}
use Rattle.pw_plan.specs.declared.plan.Plan.{Plan}
use Rattle.pw_plan.specs.Groups.{has_member, is_idle, is_software}
use Rattle.pw_plan.specs.Parts.{scale_of}
use Rattle.pw_plan.specs.Places.{cpu_at, domain_at, domain_of}
use Rattle.pw_plan.proofs.Lists.{each_append, or_left}
use Rattle.pw_model.specs.declared.entry.HistoryEntry.{HistoryEntry}
use Rattle.pw_model.specs.declared.state.Change.{Change}
use Rattle.pw_model.specs.declared.state.Change.TheVariants as changes
use Rattle.pw_model.specs.declared.state.State.{State}
use Rattle.pw_model.specs.States.{opening, with_change}
use Rattle.pw_model.specs.Domains.{standing}
use Rattle.pw_model.specs.History.{Faultless, IsEntry, history_ops, replay}
use Rattle.pw_model.specs.Laws.{HasOwnRegisters, IsFitMember, IsLastSetAmong}
use Rattle.pw_model.specs.Operations.{domain_ops, opening_at, opening_ops, opening_ops_of, register_of, set_at, set_on}
use Rattle.pw_model.proofs.Histories.{Keeps, history_stands}
use Rattle.pw_model.proofs.LastSets.{Untouched, mapped, untouched_in}
use Rattle.pw_model.proofs.Registers.{Found, IsFit, elsewhere, found, opening_at_members, place_is, set_at_members}
use Rattle.pw_model.proofs.Standings.{Spares, standing-any, standing-spared}
use Rattle.pw_base.proofs.Facts.{weaker}

-- # The last that is set among members

module _ (P : Plan) (kind : DomainKind) (ms : List ℕ) where
  abbrev pub its_register : ℕ → Register
  its_register q = register_of (scale_of kind (cpu_at P q))

  -- none of these sets a member's register
  abbrev pub SparesAll : List Op → Type 0
  SparesAll ops = (q : ℕ) → has_member ms q ≡ true → Untouched q (its_register q) ops

  among_append : (s : ℕ) (ops more : List Op) → IsLastSetAmong P kind ms s ops → SparesAll more → IsLastSetAmong P kind ms s (ops ++ more)
  among_append s ops more last spares = record {
    before = last.before;
    later = last.later ++ more;
    cpu = last.cpu;
    member = last.member;
    set = ap (λ os. os ++ more) last.set ∙ append_assoc last.before (set_on P kind s last.cpu ∷ last.later) more;
    none_later = λ q e. each_append (λ o. (w : ℕ) → o ≢ op.Set q (its_register q) w) last.later more (last.none_later q e) (spares q e);
  }

  among_before : (s : ℕ) (more ops : List Op) → IsLastSetAmong P kind ms s ops → IsLastSetAmong P kind ms s (more ++ ops)
  among_before s more ops last = record {
    before = more ++ last.before;
    later = last.later;
    cpu = last.cpu;
    member = last.member;
    set = ap (λ os. more ++ os) last.set ∙ sym (append_assoc more last.before (set_on P kind s last.cpu ∷ last.later));
    none_later = last.none_later;
  }

  among_alone : (s q : ℕ) → has_member ms q ≡ true → IsLastSetAmong P kind ms s (set_on P kind s q ∷ [])
  among_alone s q e = record { before = []; later = []; cpu = q; member = e; set = refl; none_later = λ r h. tt }

  among_in : (s : ℕ) (f : ℕ → List Op) (d k n : ℕ) → k ≤ d → d < k + n → IsLastSetAmong P kind ms s (f d) → ((q : ℕ) → q < k + n → q ≢ d → SparesAll (f q))
      → IsLastSetAmong P kind ms s (flat_map f (range_with_len k n))
  among_in s f d k zero le lt last other = absurd (omega arith)
  among_in s f d k (suc n) le lt last other = elim (cases_eq k d) [
    | inl here ↦ among_append s (f k) (flat_map f (range_with_len (k + 1) n)) (rw here last)
        (λ r e. untouched_in r (its_register r) f (k + 1) n (λ q a b. other q (omega arith) (λ same. absurd (omega (arith, same, here))) r e))
    | inr behind ↦ among_before s (f k) (flat_map f (range_with_len (k + 1) n)) (among_in s f d (k + 1) n (further k d le behind) (omega arith) last (λ q b. other q (omega arith)))
  ]
    where
      further : (k d : ℕ) → k ≤ d → (k ≡ d → ⊥) → k + 1 ≤ d
      further k d le ne = grind arith

-- # A domain of which any member is set

module _ (P : Plan) (d p : ℕ) (on : IsFitMember P SwAny d p) (own : (q : ℕ) → has_member (domain_at P d).members q ≡ true → HasOwnRegisters P q) where
  abbrev kind_is : DomainKind
  kind_is = (domain_at P d).kind

  abbrev all : List ℕ
  all = (domain_at P d).members

  abbrev Last : State → List Op → Type 0
  Last S ops = IsLastSetAmong P (domain_at P d).kind (domain_at P d).members (standing P S d p) ops

  is_fit : IsFit P d
  is_fit = record { exists = on.exists; kind = on.kind; fit = on.fit }

  software : is_software (domain_at P d).coord ≡ true
  software = ap is_software on.coordinated

  moved : (S T : State) (ops : List Op) → standing P S d p ≡ standing P T d p → Last S ops → Last T ops
  moved S T ops e last = subst (λ s. IsLastSetAmong P (domain_at P d).kind (domain_at P d).members s ops) e last

  -- what is set of another domain's member is no register of this one's
  apart : (e m s r : ℕ) → IsFit P e → has_member (domain_at P e).members m ≡ true → e ≢ d → has_member all r ≡ true → (w : ℕ)
      → set_on P (domain_at P e).kind s m ≢ op.Set r (its_register P kind_is all r) w
  apart e m s r fit member other in_d w = elsewhere P d r is_fit in_d (own r in_d) e m s fit member other w

  opening_here : Last (opening P) (opening_ops_of P d)
  opening_here = step (is_idle kind_is) (nat_lt 0 (domain_at P d).unfit) (domain_at P d).coord all on.kind (let fit = on.fit in grind (arith, nat_tests, fit)) on.coordinated on.member refl
    where
      step : (a b : Bool) (x : Coord) (ms : List ℕ) → a ≡ false → b ≡ false → x ≡ SwAny → has_member ms p ≡ true → ms ≡ all
          → Last (opening P) (cond a [] (cond b [] (map (λ q. set_on P kind_is (standing P (opening P) d q) q) (opening_at x ms))))
      step true b x ms e f g h i = cc
      step false true x ms e f g h i = cc
      step false false SwAll ms e f g h i = cc
      step false false HwAll ms e f g h i = cc
      step false false SwAny [] e f g h i = cc
      step false false SwAny (m ∷ ms) e f g h i =
          let first : has_member (m ∷ ms) m ≡ true = or_left (m == m) (has_member ms m) (grind (arith, nat_tests)) in
          rw (standing-any P (opening P) d m p software) (among_alone P kind_is all (standing P (opening P) d p) m (ap (λ xs. has_member xs m) (sym i) ∙ first))

  opening_elsewhere : (e : ℕ) → e < length P.domains → e ≢ d → SparesAll P kind_is all (opening_ops_of P e)
  opening_elsewhere e lt other r in_d = step (is_idle (domain_at P e).kind) (nat_lt 0 (domain_at P e).unfit) refl refl
    where
      step : (a b : Bool) → is_idle (domain_at P e).kind ≡ a → nat_lt 0 (domain_at P e).unfit ≡ b
          → Untouched r (its_register P kind_is all r)
          (cond a [] (cond b [] (map (λ q. set_on P (domain_at P e).kind (standing P (opening P) e q) q) (opening_at (domain_at P e).coord (domain_at P e).members))))
      step true b x y = tt
      step false true x y = tt
      step false false x y = mapped (λ o. (w : ℕ) → o ≢ op.Set r (its_register P kind_is all r) w)
          (λ q. set_on P (domain_at P e).kind (standing P (opening P) e q) q) (opening_at (domain_at P e).coord (domain_at P e).members)
          (λ q g. apart e q (standing P (opening P) e q) r (record { exists = lt; kind = x; fit = grind (arith, nat_tests) }) (opening_at_members (domain_at P e).coord (domain_at P e).members q g)
          other in_d)

  opens : Last (opening P) (opening_ops P)
  unfolding opening_ops
  opens = among_in P kind_is all (standing P (opening P) d p) (opening_ops_of P) d 0 (length P.domains) (omega arith) (rw zero-add on.exists) opening_here
      (λ q lt other. opening_elsewhere q (rw zero-add at lt) other)

  -- # A request on a domain of performance or throttling

  module _ (S : State) (c : Change) (kind : DomainKind) (q : ℕ) (has : Found P kind q) (spares : (k : DomainKind) (m : ℕ) → (k ≡ kind → m ≢ q) → Spares c k m) where
    abbrev left : State
    left = with_change S c

    -- on the domain itself
    here : (ops : List Op) (k : DomainKind) → kind_is ≡ k → has_member all q ≡ true → Last S ops
        → Last left (ops ++ cond (standing P S d q == standing P left d q) [] (map (set_on P k (standing P left d q)) (set_at (domain_at P d).coord all q)))
    here ops k is in_d last = step (standing P S d q == standing P left d q) (domain_at P d).coord refl on.coordinated
      where
        step : (b : Bool) (x : Coord) → (standing P S d q == standing P left d q) ≡ b → x ≡ SwAny → Last left (ops ++ cond b [] (map (set_on P k (standing P left d q)) (set_at x all q)))
        step b SwAll e f = cc
        step b HwAll e f = cc
        step true SwAny e f =
            let same : standing P S d q ≡ standing P left d q = grind (arith, nat_tests) in
            rw append-nil (moved S left ops (standing-any P S d p q software ∙ same ∙ standing-any P left d q p software) last)
        step false SwAny e f = among_before P kind_is all (standing P left d p) ops (set_on P k (standing P left d q) q ∷ [])
            (subst (λ o. IsLastSetAmong P kind_is all (standing P left d p) (o ∷ [])) (ap (λ s. set_on P kind_is s q) (standing-any P left d p q software) ∙ ap
            (λ j. set_on P j (standing P left d q) q) is)
            (among_alone P kind_is all (standing P left d p) q in_d))

    -- on another one
    away : (ops : List Op) → domain_of P kind q ≢ d → Last S ops → Last left (ops ++ domain_ops P S left kind q)
    away ops other last =
        among_append P kind_is all (standing P left d p) ops (domain_ops P S left kind q) (moved S left ops (sym (standing-spared P S c d p on.member spared)) last)
        (λ r in_d. step r in_d (standing P S (domain_of P kind q) q == standing P left (domain_of P kind q) q))
      where
        spared : (m : ℕ) → has_member all m ≡ true → Spares c kind_is m
        spared m in_d = spares kind_is m (λ is same. other (ap (λ k. domain_of P k q) (sym is) ∙ place_is P d q on.exists on.kind (rw same at in_d)))

        step : (r : ℕ) → has_member all r ≡ true → (b : Bool) → Untouched r (its_register P kind_is all r)
            (cond b [] (map (set_on P kind (standing P left (domain_of P kind q) q)) (set_at (domain_at P (domain_of P kind q)).coord (domain_at P (domain_of P kind q)).members q)))
        step r in_d true = tt
        step r in_d false = mapped (λ o. (w : ℕ) → o ≢ op.Set r (its_register P kind_is all r) w)
            (set_on P kind (standing P left (domain_of P kind q) q)) (set_at (domain_at P (domain_of P kind q)).coord (domain_at P (domain_of P kind q)).members q)
            (λ m g. subst (λ k. (w : ℕ) → set_on P k (standing P left (domain_of P kind q) q) m ≢ op.Set r (its_register P kind_is all r) w) has.is
            (apart (domain_of P kind q) m (standing P left (domain_of P kind q) q) r has.fit
            (set_at_members (domain_at P (domain_of P kind q)).coord (domain_at P (domain_of P kind q)).members q m has.member g) other in_d))

    follows : (ops : List Op) → Last S ops → Last left (ops ++ domain_ops P S left kind q)
    follows ops last = elim (cases_eq (domain_of P kind q) d) [
      | inl e ↦ on_it (domain_of P kind q) e has.is has.member
      | inr e ↦ away ops e last
    ]
      where
        on_it : (e : ℕ) → e ≡ d → (domain_at P e).kind ≡ kind → has_member (domain_at P e).members q ≡ true
            → Last left (ops ++ cond (standing P S e q == standing P left e q) [] (map (set_on P kind (standing P left e q)) (set_at (domain_at P e).coord (domain_at P e).members q)))
        on_it e same is member = subst (λ i. Last left (ops ++ cond (standing P S i q == standing P left i q) []
            (map (set_on P kind (standing P left i q)) (set_at (domain_at P i).coord (domain_at P i).members q)))) (sym same)
            (here ops kind (ap (λ i. (domain_at P i).kind) (sym same) ∙ is) (ap (λ i. has_member (domain_at P i).members q) (sym same) ∙ member) last)

  any_keeps : Keeps P Last
  any_keeps = record {
    opening = opens;
    voted = λ S q v ops last. moved S (with_change S (changes.Vote q v)) ops (sym (standing-spared P S (changes.Vote q v) d p on.member (λ m e. tt))) last;
    entered = λ S ops more none last. among_append P kind_is all (standing P S d p) ops more last
        (λ r e. weaker (λ o. (q : ℕ) (x : Register) (w : ℕ) → o ≢ op.Set q x w) (λ o. (w : ℕ) → o ≢ op.Set r (its_register P kind_is all r) w)
        (λ o h w. h r (its_register P kind_is all r) w) more none);
    requested = λ S c kind q exists accepted scaled spares ops last. follows S c kind q (found P kind q exists accepted scaled) spares ops last;
  }

  pub any_is_set : (es : List HistoryEntry) → AllByRecursion (IsEntry P) es → Faultless es → Last (replay P es) (opening_ops P ++ history_ops P es)
  any_is_set es entries faults = history_stands P Last any_keeps es entries faults
