-- What is operated, and in which order.
use Rattle.std.proofs.Common.{◌≡◌, ◌≢◌, ◌<◌, ◌==◌, ◌&&◌, ◌||◌, not, ℕ, Bool, true, false, cond, List, [], ◌∷◌, ◌++◌, map, length, Option, Some, None, refl, ap, sym, ◌∙◌, inl, inr, arith}
use Rattle.std.specs.Prelude.{filter, nat_lt}
use Rattle.std.specs.List.Sorted.{IsStrictlyIncreasing}
use Rattle.std.proofs.lemmas.Bool.{cases_lt}
use Rattle.std.proofs.lemmas.Bool.Decides.{nat_tests}
use Rattle.std.proofs.lemmas.List.{get_or_past}
use Rattle.std.proofs.lemmas.List.Kept.{IsStrictlyIncreasing-filter}
use Rattle.acpi_values.specs.declared.dependency.Coord.{Coord}
use Rattle.acpi_values.specs.declared.dependency.Coord.TheVariants.{SwAll, SwAny, HwAll}
use Rattle.acpi_values.specs.declared.idle.IdleKind.{IdleKind}
use Rattle.acpi_values.specs.declared.idle.IdleKind.TheVariants.{Lpi, Cst, Absent}
use Rattle.acpi_values.specs.declared.operation.Op.{Op}
use Rattle.pw_plan.specs.declared.domain.DomainKind.{DomainKind}
use Rattle.pw_plan.specs.declared.plan.Plan.{Plan}
use Rattle.pw_plan.specs.declared.request.Request.{Request}
use Rattle.pw_plan.specs.declared.request.Request.TheVariants.{Idle}
use Rattle.pw_plan.specs.Groups.{has_member, is_idle, no_group}
use Rattle.pw_plan.specs.Places.{cpu_at, domain_at, domain_of, group_at, group_of}
use Rattle.pw_model.specs.declared.reply.Reply.{Reply}
use Rattle.pw_model.specs.declared.state.State.{State}
use Rattle.pw_model.specs.Answers.{after, changed, if_accepted}
use Rattle.pw_model.specs.Domains.{c_state, standing}
use Rattle.pw_model.specs.Operating.{EnterAfter, EntersFirst, SetsNewStanding, StartsAll, StartsDomain, start_on}
use Rattle.pw_model.specs.Operations.{accepted_ops, domain_ops, drawn_with, enter, idle_ops, is_drawn, opening_at, opening_ops, opening_ops_of, ops_of, own_entry, set_at, set_on}
use Rattle.pw_model.specs.Refusals.{refusal}
use Rattle.pw_model.proofs.Accepting.{idle_from}
use Rattle.pw_model.proofs.Fitting.{accepted_fixed}

-- # Performance and throttling

none_where_same : (a b : ℕ) (ops : List Op) → a ≡ b → cond (a == b) [] ops ≡ []
none_where_same a b ops e = let h : (a == b) ≡ true = grind (arith, nat_tests) in rw h refl

some_where_new : (a b : ℕ) (ops : List Op) → a ≢ b → cond (a == b) [] ops ≡ ops
some_where_new a b ops ne = let h : (a == b) ≡ false = grind (arith, nat_tests) in rw h refl

own_alone : (coord : Coord) (members : List ℕ) (p : ℕ) → coord ≢ SwAll → set_at coord members p ≡ p ∷ []
own_alone SwAll members p ne = absurd (ne refl)
own_alone SwAny members p ne = refl
own_alone HwAll members p ne = refl

module _ (P : Plan) (S : State) (kind : DomainKind) (p : ℕ) where
  moved_sets : (T : State) → SetsNewStanding P S T kind (domain_of P kind p) p (domain_ops P S T kind p)
  moved_sets T =
      let d = domain_of P kind p in
      let f = set_on P kind (standing P T d p) in
      let ops = map f (set_at (domain_at P d).coord (domain_at P d).members p) in
      record {
        stays = λ e. none_where_same (standing P S d p) (standing P T d p) ops e;
        all = λ ne e. some_where_new (standing P S d p) (standing P T d p) ops ne ∙ ap (λ c. map f (set_at c (domain_at P d).members p)) e;
        alone = λ ne other. some_where_new (standing P S d p) (standing P T d p) ops ne ∙ ap (map f) (own_alone (domain_at P d).coord (domain_at P d).members p other);
      }

  pub sets : (q : Request) → ((T : State) → accepted_ops P S T q ≡ domain_ops P S T kind p) → SetsNewStanding P S (after P S q) kind (domain_of P kind p) p (ops_of P S q)
  unfolding after ops_of
  sets q is = by (refusal P S q)
    where
      by : (r : Option Reply) → SetsNewStanding P S (if_accepted r (λ reply. S) (changed P S q)) kind (domain_of P kind p) p (if_accepted r (λ reply. []) (accepted_ops P S (changed P S q) q))
      by None = rw (is (changed P S q)) (moved_sets (changed P S q))
      by (Some reply) = record { stays = λ e. refl; all = λ ne e. absurd (ne refl); alone = λ ne other. absurd (ne refl) }

-- # Idle requests

own_first : (kind : IdleKind) (c : ℕ) (o : Op) → kind ≢ Absent → (kind ≡ Cst → 0 < c) → own_entry kind c o ≡ o ∷ []
own_first Lpi c o table h = refl
own_first Cst c o table h = let lt = h refl in let e : (c == 0) ≡ false = grind (arith, nat_tests) in rw e refl
own_first Absent c o table h = absurd (table refl)

own_none : (kind : IdleKind) (c : ℕ) (o : Op) → kind ≡ Cst → c ≡ 0 → own_entry kind c o ≡ []
own_none kind c o e z = rw (e, z) refl

without : (t : ℕ → Bool) (p : ℕ) → t p ≡ false → (ms : List ℕ) → has_member (filter t ms) p ≡ false
without t p e [] = refl
without t p e (m ∷ ms) = step (t m) refl (without t p e ms)
  where
    here : (b : Bool) → (m == p) ≡ b → t m ≡ true → has_member (filter t ms) p ≡ false → (b || has_member (filter t ms) p) ≡ false
    here false g h later = later
    here true g h later =
        let same : m ≡ p = grind (arith, nat_tests) in
        let clash : true ≡ false = sym h ∙ (ap t same ∙ e) in
        cc

    step : (b : Bool) → t m ≡ b → has_member (filter t ms) p ≡ false → has_member (cond b (m ∷ filter t ms) (filter t ms)) p ≡ false
    step false h later = later
    step true h later = here (m == p) refl h later

not_itself : (p : ℕ) (b : Bool) → (not (p == p) && b) ≡ false
not_itself p b = let e : (p == p) ≡ true = grind (arith, nat_tests) in rw e refl

none_rise : IsStrictlyIncreasing []
none_rise = λ k lt. absurd (omega arith)

members_rise : (P : Plan) (g : ℕ) → IsStrictlyIncreasing (group_at P g).members
unfolding no_group
members_rise P g = elim (cases_lt g (length P.groups)) [
  | inl lt ↦ P.orderly.grouped g no_group lt
  | inr le ↦ rw (get_or_past P.groups g no_group le) none_rise
]

module _ (P : Plan) (S T : State) (p : ℕ) where
  along_rises : EnterAfter P T p (map (enter P T) (drawn_with P S T p))
  along_rises =
      let t = λ (q : ℕ). not (q == p) && is_drawn P S T q in
      record {
        cpus = drawn_with P S T p;
        are = refl;
        rising = IsStrictlyIncreasing-filter t (group_at P (group_of P p)).members (members_rise P (group_of P p));
        others = without t p (not_itself p (is_drawn P S T p)) (group_at P (group_of P p)).members;
      }

  pub enters_first : (cpu_at P p).idle.kind ≢ Absent → EntersFirst P T p (idle_ops P S T p)
  enters_first table =
      let c = c_state P T p in
      let along = map (enter P T) (drawn_with P S T p) in
      record {
        later = along;
        own = λ h. ap (λ os. os ++ along) (own_first (cpu_at P p).idle.kind c (enter P T p) table h);
        none = λ e z. ap (λ os. os ++ along) (own_none (cpu_at P p).idle.kind c (enter P T p) e z);
        others = along_rises;
      }

pub idle_enters : (P : Plan) (S : State) (p s t : ℕ) → refusal P S (Idle p s t) ≡ None → EntersFirst P (after P S (Idle p s t)) p (ops_of P S (Idle p s t))
unfolding after ops_of accepted_ops
idle_enters P S p s t e =
    let may = idle_from P p s t (accepted_fixed P S (Idle p s t) e) in
    by (refusal P S (Idle p s t)) e may.table
  where
    by : (r : Option Reply) → r ≡ None → (cpu_at P p).idle.kind ≢ Absent
        → EntersFirst P (if_accepted r (λ reply. S) (changed P S (Idle p s t))) p (if_accepted r (λ reply. []) (idle_ops P S (changed P S (Idle p s t)) p))
    by None e table = enters_first P S (changed P S (Idle p s t)) p table
    by (Some reply) e table = cc

-- # The start

members_each : (coord : Coord) (members : List ℕ) → coord ≢ SwAny → opening_at coord members ≡ members
members_each SwAll members ne = refl
members_each SwAny members ne = absurd (ne refl)
members_each HwAll members ne = refl

member_first : (coord : Coord) (members ps : List ℕ) (p : ℕ) → coord ≡ SwAny → members ≡ p ∷ ps → opening_at coord members ≡ p ∷ []
member_first coord members ps p e is = rw (e, is) refl

module _ (P : Plan) (d : ℕ) where
  abbrev settled : List Op
  settled = map (start_on P d) (opening_at (domain_at P d).coord (domain_at P d).members)

  none_unfit : (n : ℕ) (idle : Bool) → n ≢ 0 → cond idle [] (cond (nat_lt 0 n) [] settled) ≡ []
  none_unfit n true ne = refl
  none_unfit n false ne = let e : nat_lt 0 n ≡ true = grind (arith, nat_tests) in rw e refl

  some_fit : (n : ℕ) (idle : Bool) → idle ≡ false → n ≡ 0 → cond idle [] (cond (nat_lt 0 n) [] settled) ≡ settled
  some_fit n idle e z = rw (e, z) refl

  domain_starts : StartsDomain P d (opening_ops_of P d)
  domain_starts =
      let x = domain_at P d in
      record {
        idle = λ e. rw e refl;
        unfit = λ ne. none_unfit x.unfit (is_idle x.kind) ne;
        any = λ fit e p ps is. some_fit x.unfit (is_idle x.kind) fit.0 fit.1 ∙ ap (map (start_on P d)) (member_first x.coord x.members ps p e is);
        each = λ fit ne. some_fit x.unfit (is_idle x.kind) fit.0 fit.1 ∙ ap (map (start_on P d)) (members_each x.coord x.members ne);
      }

pub all_start : (P : Plan) → StartsAll P (opening_ops P)
unfolding opening_ops
all_start P = record { of_domain = opening_ops_of P; are = refl; each = domain_starts P }
