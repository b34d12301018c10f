-- What the controls of a fit domain's members were last set to, from the start over every request of a history.
use Rattle.std.proofs.Common.{◌≡◌, ◌≢◌, ◌<◌, ◌==◌, ℕ, Bool, true, false, cond, List, [], ◌∷◌, ◌++◌, map, length, Option, Some, None, refl, ap, sym, subst, ◌∙◌, inl, inr, arith, zero-add, append-nil, append_assoc, get_or-set_same, get_or-set_other, eqb-true, eq-eqb}
use Rattle.std.specs.Prelude.{◌⊎◌, is_some, slice_index_or, slice_set}
use Rattle.std.specs.List.{flat_map}
use Rattle.std.proofs.lemmas.Bool.{cases_eq}
use Rattle.std.proofs.lemmas.Bool.Decides.{nat_tests}
use Rattle.acpi_values.specs.declared.dependency.Coord.{Coord}
use Rattle.acpi_values.specs.declared.dependency.Coord.TheVariants.{SwAll, SwAny, HwAll}
use Rattle.acpi_values.specs.declared.operation.Op.{Op}
use Rattle.acpi_values.specs.declared.register.Register.{Register}
use Rattle.pw_plan.specs.Groups.{has_member, is_software}
use Rattle.pw_plan.proofs.Lists.{or_left}
use Rattle.pw_kind.specs.History as histories
use Rattle.pw_model.proofs.Maps.{map_agree}
use Rattle.pw_model.proofs.Registers.{opening_at_members, set_at_members}
use Rattle.pw_model.specs.Operations.{opening_at, set_at}
use Rattle.pw_cppc.specs.declared.entry.CppcEntry.{CppcEntry}
use Rattle.pw_cppc.specs.declared.numbers.CppcNumbers.{CppcNumbers}
use Rattle.pw_cppc.specs.declared.parts.Control.{Control}
use Rattle.pw_cppc.specs.declared.parts.Control.TheVariants as controls
use Rattle.pw_cppc.specs.declared.plan.CppcPlan.{CppcPlan}
use Rattle.pw_cppc.specs.declared.reply.CppcReply.{CppcReply}
use Rattle.pw_cppc.specs.declared.request.CppcRequest.{CppcRequest}
use Rattle.pw_cppc.specs.declared.request.CppcRequest.TheVariants.{Desired, Minimum, Maximum}
use Rattle.pw_cppc.specs.Answers.{after, if_accepted, refusal}
use Rattle.pw_cppc.specs.History.{Faultless, history_ops, ops_from, replay, replay_from, request_of}
use Rattle.pw_cppc.specs.Controls.{HasOwnRegisters, IsFitMember, IsLastSetOn, said_by}
use Rattle.pw_cppc.specs.Operations.{bound_ops, opening_ops, opening_ops_of, ops_of, range_ops, set_on, standing_ops}
use Rattle.pw_cppc.specs.Parts.{highest_of, lowest_of, register_of}
use Rattle.pw_cppc.specs.Planning.{domain_at, domain_of, parts_at}
use Rattle.pw_cppc.specs.Requests.{cpu_of}
use Rattle.pw_cppc.specs.Sound.{no_domain}
use Rattle.pw_cppc.specs.States.{AreNumbers, ask_of, changed, maximum_of, minimum_of, opening, standing, stands, stands_at, within}
use Rattle.pw_cppc.proofs.LastSet.{Spares, each_spares, last_among, last_append, last_before, last_in, others_spare, set_last, spares_append, spares_none}
use Rattle.pw_cppc.proofs.MembersAsked.{each_member, own_number}
use Rattle.pw_cppc.proofs.Refused.{at_place, may_ask}
use Rattle.pw_cppc.proofs.Software.{opening_fits}
use Rattle.pw_cppc.proofs.Starting.{exists, maximum_at_start, minimum_at_start}
use Rattle.pw_cppc.proofs.Staying.{after_fits}

-- # Where a domain stands, by the numbers of its members

abbrev pub Same : CppcNumbers → CppcNumbers → ℕ → Type 0
Same S T m = (ask_of T m ≡ ask_of S m) × (minimum_of T m ≡ minimum_of S m) × (maximum_of T m ≡ maximum_of S m)

-- a request changes numbers of its own processor alone
pub changed_same : (S : CppcNumbers) (q : CppcRequest) (m : ℕ) → m ≢ cpu_of q → Same S (changed S q) m
changed_same S (Desired p v) m other = (get_or-set_other S.asks p m v 0 other, refl, refl)
changed_same S (Minimum p v) m other = (refl, get_or-set_other S.minima p m v 0 other, refl)
changed_same S (Maximum p v) m other = (refl, refl, get_or-set_other S.maxima p m v 0 other)

either_same : (b : Bool) (xs ys zs xs2 ys2 zs2 : List ℕ) (x y z x2 y2 z2 : ℕ) → xs ≡ xs2 → ys ≡ ys2 → zs ≡ zs2 → x ≡ x2 → y ≡ y2 → z ≡ z2
    → cond b (stands_at xs ys zs) (within x y z) ≡ cond b (stands_at xs2 ys2 zs2) (within x2 y2 z2)
either_same b xs ys zs xs2 ys2 zs2 x y z x2 y2 z2 a b2 c d e f = rw (a, b2, c, d, e, f) refl

module _ (P : CppcPlan) (S T : CppcNumbers) (d p : ℕ) where
  -- where all members' numbers stay
  pub stays : has_member (domain_at P d).members p ≡ true → ((m : ℕ) → has_member (domain_at P d).members m ≡ true → Same S T m) → standing P T d p ≡ standing P S d p
  stays member same =
      let ms = (domain_at P d).members in
      let all = each_member ms in
      let own = same p member in
      either_same (is_software (domain_at P d).coord) (map (ask_of T) ms) (map (minimum_of T) ms) (map (maximum_of T) ms) (map (ask_of S) ms) (map (minimum_of S) ms) (map (maximum_of S) ms)
      (ask_of T p) (minimum_of T p) (maximum_of T p) (ask_of S p) (minimum_of S p) (maximum_of S p)
      (map_agree (λ m. has_member ms m ≡ true) (ask_of T) (ask_of S) (λ m e. (same m e).0) ms all)
      (map_agree (λ m. has_member ms m ≡ true) (minimum_of T) (minimum_of S) (λ m e. (same m e).1) ms all)
      (map_agree (λ m. has_member ms m ≡ true) (maximum_of T) (maximum_of S) (λ m e. (same m e).2) ms all)
      own.0 own.1 own.2

  -- where hardware coordinates it, and its own stay
  pub stays_alone : is_software (domain_at P d).coord ≡ false → Same S T p → standing P T d p ≡ standing P S d p
  stays_alone hardware own =
      let a = own.0 in
      let b = own.1 in
      let c = own.2 in
      rw hardware (ap (λ (n : ℕ). within n (minimum_of T p) (maximum_of T p)) a ∙ ap (λ (n : ℕ). within (ask_of S p) n (maximum_of T p)) b ∙ ap (within (ask_of S p) (minimum_of S p)) c)

-- the domain stands alike for whoever asks
pub for_all : (P : CppcPlan) (S : CppcNumbers) (d p q : ℕ) → is_software (domain_at P d).coord ≡ true → standing P S d p ≡ standing P S d q
for_all P S d p q software = rw software refl

some_register : (o : Option Register) → is_some o ≡ true → (r : Register) × (o ≡ Some r)
some_register None e = cc
some_register (Some r) e = (r, refl)

-- # The operations of a domain at the start

abbrev ranges_in : CppcPlan → ℕ → List Op
ranges_in P d = flat_map (range_ops P) (domain_at P d).members

-- what is set on processor p, where its domain stands
abbrev at_start : CppcPlan → ℕ → ℕ → List Op
at_start P d p = set_on P controls.Desired p (standing P (opening P) d p)

abbrev desired_in : CppcPlan → ℕ → List Op
desired_in P d = flat_map (at_start P d) (opening_at (domain_at P d).coord (domain_at P d).members)

-- on whom the domain of processor p is set where p asked
abbrev set_for : CppcPlan → ℕ → List ℕ
set_for P p = set_at (domain_at P (domain_of P p)).coord (domain_at P (domain_of P p)).members p

-- # One control of some members of a fit domain

pub record IsWatched (P : CppcPlan) (d : ℕ) (on : ℕ → Type 0) : Type 0 where
  pub exists : d < length P.domains
  pub fit : (domain_at P d).unfit ≡ 0
  pub members : (q : ℕ) → on q → has_member (domain_at P d).members q ≡ true
  pub own : (q : ℕ) → on q → HasOwnRegisters P q

module _ (P : CppcPlan) (control : Control) (on : ℕ → Type 0) (d : ℕ) (w : IsWatched P d on) where
  -- who is a member of another domain is none of them
  elsewhere : (e q : ℕ) → e < length P.domains → has_member (domain_at P e).members q ≡ true → e ≢ d → on q → ⊥
  elsewhere e q lt member other i = other (sym (P.sound.only e q lt member) ∙ P.sound.only d q w.exists (w.members q i))

  spares_cpu : (c : Control) (q v : ℕ) → (on q → ⊥) → Spares P control on (set_on P c q v)
  spares_cpu c q v none = others_spare P control on c q v (λ r i a b. none i)

  spares_control : (c : Control) (q v : ℕ) → c ≢ control → Spares P control on (set_on P c q v)
  spares_control c q v other = others_spare P control on c q v (λ r i a b. other (w.own q i c control r b a))

  -- # At the start

  opening_elsewhere : (e : ℕ) → e < length P.domains → e ≢ d → Spares P control on (opening_ops_of P e)
  opening_elsewhere e lt other = step ((domain_at P e).unfit == 0)
    where
      nobody : (q : ℕ) → has_member (domain_at P e).members q ≡ true → on q → ⊥
      nobody q m i = elsewhere e q lt m other i

      range : (q : ℕ) → has_member (domain_at P e).members q ≡ true → Spares P control on (range_ops P q)
      range q m = spares_append P control on (set_on P controls.Minimum q (lowest_of (parts_at P q))) (set_on P controls.Maximum q (highest_of (parts_at P q)))
          (spares_cpu controls.Minimum q (lowest_of (parts_at P q)) (nobody q m)) (spares_cpu controls.Maximum q (highest_of (parts_at P q)) (nobody q m))

      step : (b : Bool) → Spares P control on (cond b (ranges_in P e ++ desired_in P e) [])
      step false = spares_none P control on
      step true = spares_append P control on (ranges_in P e) (desired_in P e)
          (each_spares P control on (range_ops P) (domain_at P e).members range)
          (each_spares P control on (at_start P e) (opening_at (domain_at P e).coord (domain_at P e).members)
          (λ q m. spares_cpu controls.Desired q (standing P (opening P) e q) (nobody q (opening_at_members (domain_at P e).coord (domain_at P e).members q m))))

  -- where it is set at the start of its own domain
  opens : (v : ℕ) → IsLastSetOn P control on v (ranges_in P d ++ desired_in P d)
      → IsLastSetOn P control on v (opening_ops P)
  unfolding opening_ops
  opens v last =
      let fits : ((domain_at P d).unfit == 0) ≡ true = eq-eqb (domain_at P d).unfit 0 w.fit in
      last_in P control on v (opening_ops_of P) d 0 (length P.domains) (omega arith) (rw zero-add w.exists) (rw fits last) (λ q lt other. opening_elsewhere q (rw zero-add at lt) other)

  -- # Requests

  spares_standing : (S T : CppcNumbers) (p : ℕ) → ((q : ℕ) → has_member (set_for P p) q ≡ true → Spares P control on (set_on P controls.Desired q (stands P T p)))
      → Spares P control on (standing_ops P S T p)
  spares_standing S T p h = step (stands P S p == stands P T p)
    where
      step : (b : Bool) → Spares P control on (cond b [] (flat_map (λ q. set_on P controls.Desired q (stands P T p)) (set_for P p)))
      step true = spares_none P control on
      step false = each_spares P control on (λ q. set_on P controls.Desired q (stands P T p)) (set_for P p) h

-- # A whole history

module _ (P : CppcPlan) (Stands : CppcNumbers → List Op → Type 0)
    (keeps : (S : CppcNumbers) (q : CppcRequest) (ops : List Op) → AreNumbers P S → refusal P S q ≡ None → Stands S ops
    → Stands (changed S q) (ops ++ (bound_ops P q ++ standing_ops P S (changed S q) (cpu_of q)))) where
  request_stands : (S : CppcNumbers) (q : CppcRequest) (ops : List Op) → AreNumbers P S → Stands S ops → Stands (after P S q) (ops ++ ops_of P S q)
  unfolding after ops_of
  request_stands S q ops fits last = step (refusal P S q) refl
    where
      step : (r : Option CppcReply) → refusal P S q ≡ r
          → Stands (if_accepted r (λ reply. S) (changed S q)) (ops ++ if_accepted r (λ reply. []) (bound_ops P q ++ standing_ops P S (changed S q) (cpu_of q)))
      step (Some reply) e = rw append-nil last
      step None e = keeps S q ops fits e last

  entries_stand : (es : List CppcEntry) (S : CppcNumbers) (ops : List Op) → Faultless es → AreNumbers P S → Stands S ops → Stands (replay_from P S es) (ops ++ ops_from P S es)
  entries_stand [] S ops faults fits last = rw append-nil last
  entries_stand (e ∷ es) S ops faults fits last =
      let fault = faults.0 in
      let none : (e.fault == 0) ≡ true = grind (arith, nat_tests) in
      rw none (rw (← append_assoc ops (ops_of P S (request_of e)) (ops_from P (after P S (request_of e)) es))
      (entries_stand es (after P S (request_of e)) (ops ++ ops_of P S (request_of e)) faults.1 (after_fits P S (request_of e) fits) (request_stands S (request_of e) ops fits last)))

  pub history_stands : (es : List CppcEntry) → Faultless es → Stands (opening P) (opening_ops P) → Stands (replay P es) (opening_ops P ++ history_ops P es)
  unfolding histories.replay histories.history_ops
  history_stands es faults last = entries_stand es (opening P) (opening_ops P) faults (opening_fits P) last

-- # A minimum or a maximum

-- who is processor p itself
abbrev itself : ℕ → ℕ → Type 0
itself p q = q ≡ p

watched : (P : CppcPlan) (d p : ℕ) → IsFitMember P d p → HasOwnRegisters P p → IsWatched P d (itself p)
watched P d p is own = record {
  exists = is.exists;
  fit = is.fit;
  members = λ q e. subst (λ k. has_member (domain_at P d).members k ≡ true) (sym e) is.member;
  own = λ q e. subst (HasOwnRegisters P) (sym e) own;
}

-- what a request does to this number, and to the control that is to say it
abbrev Bounds : CppcPlan → Control → ℕ → (CppcNumbers → ℕ) → CppcNumbers → CppcRequest → Type 0
Bounds P control p value S q = ((value (changed S q) ≡ value S) × Spares P control (itself p) (bound_ops P q)) ⊎ IsLastSetOn P control (itself p) (value (changed S q)) (bound_ops P q)

module _ (P : CppcPlan) (d p : ℕ) (is : IsFitMember P d p) (own : HasOwnRegisters P p) (control : Control) (value : CppcNumbers → ℕ) (other : controls.Desired ≢ control) where
  w : IsWatched P d (itself p)
  w = watched P d p is own

  bound_keeps : ((S : CppcNumbers) (q : CppcRequest) → AreNumbers P S → Bounds P control p value S q) → (S : CppcNumbers) (q : CppcRequest) (ops : List Op) → AreNumbers P S → refusal P S q ≡ None
      → IsLastSetOn P control (itself p) (value S) ops → IsLastSetOn P control (itself p) (value (changed S q)) (ops ++ (bound_ops P q ++ standing_ops P S (changed S q) (cpu_of q)))
  bound_keeps bounds S q ops fits accepted last =
      let st = standing_ops P S (changed S q) (cpu_of q) in
      let spares = spares_standing P control (itself p) d w S (changed S q) (cpu_of q) (λ m g. spares_control P control (itself p) d w controls.Desired m (stands P (changed S q) (cpu_of q)) other) in
      elim (bounds S q fits) [
        | inl h ↦ last_append P control (itself p) (value (changed S q)) ops (bound_ops P q ++ st) (subst (λ v. IsLastSetOn P control (itself p) v ops) (sym h.0) last)
            (spares_append P control (itself p) (bound_ops P q) st h.1 spares)
        | inr l ↦ last_before P control (itself p) (value (changed S q)) ops (bound_ops P q ++ st) (last_append P control (itself p) (value (changed S q)) (bound_ops P q) st l spares)
      ]

  bound_opens : (v : ℕ) → IsLastSetOn P control (itself p) v (range_ops P p) → IsLastSetOn P control (itself p) v (opening_ops P)
  bound_opens v here =
      let ms = (domain_at P d).members in
      opens P control (itself p) d w v (last_append P control (itself p) v (ranges_in P d) (desired_in P d)
      (last_among P control (itself p) v (range_ops P) p ms is.member here
      (λ q ne. spares_append P control (itself p) (set_on P controls.Minimum q (lowest_of (parts_at P q))) (set_on P controls.Maximum q (highest_of (parts_at P q)))
      (spares_cpu P control (itself p) d w controls.Minimum q (lowest_of (parts_at P q)) ne) (spares_cpu P control (itself p) d w controls.Maximum q (highest_of (parts_at P q)) ne)))
      (each_spares P control (itself p) (at_start P d) (opening_at (domain_at P d).coord ms) (λ q g. spares_control P control (itself p) d w controls.Desired q (standing P (opening P) d q) other)))

module _ (P : CppcPlan) (d p : ℕ) (is : IsFitMember P d p) (own : HasOwnRegisters P p) (r : Register) where
  here_is : p < length P.cpus
  here_is = exists P d is.exists is.fit p is.member

  -- # The minimum

  minimum_bounds : register_of controls.Minimum (parts_at P p) ≡ Some r → (S : CppcNumbers) (q : CppcRequest) → AreNumbers P S → Bounds P controls.Minimum p (λ T. minimum_of T p) S q
  minimum_bounds has S (Desired q v) fits = inl (refl, spares_none P controls.Minimum (itself p))
  minimum_bounds has S (Maximum q v) fits = inl (refl, spares_control P controls.Minimum (itself p) d (watched P d p is own) controls.Maximum q v (λ e. cc))
  minimum_bounds has S (Minimum q v) fits = elim (cases_eq q p) [
    | inl same ↦
        let n = fits.minima in
        let lt = here_is in
        let within : p < length S.minima = omega (arith, n, lt) in
        let now : slice_index_or (slice_set S.minima q v) p 0 ≡ v = rw same (get_or-set_same S.minima p v 0 within) in
        inr (subst (λ n. IsLastSetOn P controls.Minimum (itself p) n (set_on P controls.Minimum q v)) (sym now)
        (set_last P controls.Minimum (itself p) q v r same (ap (λ k. register_of controls.Minimum (parts_at P k)) same ∙ has)))
    | inr away ↦ inl (get_or-set_other S.minima q p v 0 (λ e. away (sym e)), spares_cpu P controls.Minimum (itself p) d (watched P d p is own) controls.Minimum q v away)
  ]

  pub minimum_stands : register_of controls.Minimum (parts_at P p) ≡ Some r → (es : List CppcEntry) → Faultless es
      → IsLastSetOn P controls.Minimum (itself p) (minimum_of (replay P es) p) (opening_ops P ++ history_ops P es)
  minimum_stands has es faults =
      history_stands P (λ S ops. IsLastSetOn P controls.Minimum (itself p) (minimum_of S p) ops)
      (bound_keeps P d p is own controls.Minimum (λ S. minimum_of S p) (λ e. cc) (minimum_bounds has)) es faults
      (bound_opens P d p is own controls.Minimum (λ S. minimum_of S p) (λ e. cc) (minimum_of (opening P) p) (subst (λ v. IsLastSetOn P controls.Minimum (itself p) v (range_ops P p))
      (sym (minimum_at_start P p here_is)) first))
    where
      first : IsLastSetOn P controls.Minimum (itself p) (lowest_of (parts_at P p)) (range_ops P p)
      first = last_append P controls.Minimum (itself p) (lowest_of (parts_at P p)) (set_on P controls.Minimum p (lowest_of (parts_at P p))) (set_on P controls.Maximum p (highest_of (parts_at P p)))
          (set_last P controls.Minimum (itself p) p (lowest_of (parts_at P p)) r refl has)
          (spares_control P controls.Minimum (itself p) d (watched P d p is own) controls.Maximum p (highest_of (parts_at P p)) (λ e. cc))

  -- # The maximum

  maximum_bounds : register_of controls.Maximum (parts_at P p) ≡ Some r → (S : CppcNumbers) (q : CppcRequest) → AreNumbers P S → Bounds P controls.Maximum p (λ T. maximum_of T p) S q
  maximum_bounds has S (Desired q v) fits = inl (refl, spares_none P controls.Maximum (itself p))
  maximum_bounds has S (Minimum q v) fits = inl (refl, spares_control P controls.Maximum (itself p) d (watched P d p is own) controls.Minimum q v (λ e. cc))
  maximum_bounds has S (Maximum q v) fits = elim (cases_eq q p) [
    | inl same ↦
        let n = fits.maxima in
        let lt = here_is in
        let within : p < length S.maxima = omega (arith, n, lt) in
        let now : slice_index_or (slice_set S.maxima q v) p 0 ≡ v = rw same (get_or-set_same S.maxima p v 0 within) in
        inr (subst (λ n. IsLastSetOn P controls.Maximum (itself p) n (set_on P controls.Maximum q v)) (sym now)
        (set_last P controls.Maximum (itself p) q v r same (ap (λ k. register_of controls.Maximum (parts_at P k)) same ∙ has)))
    | inr away ↦ inl (get_or-set_other S.maxima q p v 0 (λ e. away (sym e)), spares_cpu P controls.Maximum (itself p) d (watched P d p is own) controls.Maximum q v away)
  ]

  pub maximum_stands : register_of controls.Maximum (parts_at P p) ≡ Some r → (es : List CppcEntry) → Faultless es
      → IsLastSetOn P controls.Maximum (itself p) (maximum_of (replay P es) p) (opening_ops P ++ history_ops P es)
  maximum_stands has es faults =
      history_stands P (λ S ops. IsLastSetOn P controls.Maximum (itself p) (maximum_of S p) ops)
      (bound_keeps P d p is own controls.Maximum (λ S. maximum_of S p) (λ e. cc) (maximum_bounds has)) es faults
      (bound_opens P d p is own controls.Maximum (λ S. maximum_of S p) (λ e. cc) (maximum_of (opening P) p) (subst (λ v. IsLastSetOn P controls.Maximum (itself p) v (range_ops P p))
      (sym (maximum_at_start P p here_is)) first))
    where
      first : IsLastSetOn P controls.Maximum (itself p) (highest_of (parts_at P p)) (range_ops P p)
      first = last_before P controls.Maximum (itself p) (highest_of (parts_at P p)) (set_on P controls.Minimum p (lowest_of (parts_at P p))) (set_on P controls.Maximum p (highest_of (parts_at P p)))
          (set_last P controls.Maximum (itself p) p (highest_of (parts_at P p)) r refl has)

-- # Desired performance

-- what a new standing sets in domain d, where processor q asked
abbrev set_anew : CppcPlan → CppcNumbers → CppcNumbers → ℕ → ℕ → Coord → List Op
set_anew P S T d q x = cond (standing P S d q == standing P T d q) [] (flat_map (λ m. set_on P controls.Desired m (standing P T d q)) (set_at x (domain_at P d).members q))

module _ (P : CppcPlan) (d p : ℕ) (is : IsFitMember P d p) (on : ℕ → Type 0) (w : IsWatched P d on) where
  abbrev Last : CppcNumbers → List Op → Type 0
  Last S ops = IsLastSetOn P controls.Desired on (standing P S d p) ops

  bounds_spare : (q : CppcRequest) → Spares P controls.Desired on (bound_ops P q)
  bounds_spare (Desired q v) = spares_none P controls.Desired on
  bounds_spare (Minimum q v) = spares_control P controls.Desired on d w controls.Minimum q v (λ e. cc)
  bounds_spare (Maximum q v) = spares_control P controls.Desired on d w controls.Maximum q v (λ e. cc)

  pub moved : (S T : CppcNumbers) (ops : List Op) → standing P S d p ≡ standing P T d p → Last S ops → Last T ops
  moved S T ops e last = subst (λ v. IsLastSetOn P controls.Desired on v ops) e last

  -- a request on another domain
  away : (S : CppcNumbers) (q : CppcRequest) (ops : List Op) → domain_of P (cpu_of q) < length P.domains → has_member (domain_at P (domain_of P (cpu_of q))).members (cpu_of q) ≡ true
      → domain_of P (cpu_of q) ≢ d → Last S ops → Last (changed S q) (ops ++ standing_ops P S (changed S q) (cpu_of q))
  away S q ops lt member other last =
      let T = changed S q in
      last_append P controls.Desired on (standing P T d p) ops (standing_ops P S T (cpu_of q))
      (moved S T ops (sym (stays P S T d p is.member
      (λ m in_d. changed_same S q m (λ same. other (P.sound.only d (cpu_of q) is.exists (subst (λ k. has_member (domain_at P d).members k ≡ true) same in_d)))))) last)
      (spares_standing P controls.Desired on d w S T (cpu_of q) (λ m g. spares_cpu P controls.Desired on d w controls.Desired m (stands P T (cpu_of q))
      (elsewhere P controls.Desired on d w (domain_of P (cpu_of q)) m lt (set_at_members (domain_at P (domain_of P (cpu_of q))).coord (domain_at P (domain_of P (cpu_of q))).members
      (cpu_of q) m member g) other)))

  -- whatever a request on the domain itself keeps, all requests keep
  pub desired_keeps : ((S T : CppcNumbers) (q : ℕ) (ops : List Op) → has_member (domain_at P d).members q ≡ true → ((m : ℕ) → m ≢ q → Same S T m) → Last S ops
      → Last T (ops ++ set_anew P S T d q (domain_at P d).coord))
      → (S : CppcNumbers) (q : CppcRequest) (ops : List Op) → AreNumbers P S → refusal P S q ≡ None → Last S ops
      → Last (changed S q) (ops ++ (bound_ops P q ++ standing_ops P S (changed S q) (cpu_of q)))
  desired_keeps here S q ops fits accepted last =
      rw (← append_assoc ops (bound_ops P q) (standing_ops P S (changed S q) (cpu_of q)))
      (step (last_append P controls.Desired on (standing P S d p) ops (bound_ops P q) last (bounds_spare q)))
    where
      place : (domain_of P (cpu_of q) < length P.domains) × (has_member (domain_at P (domain_of P (cpu_of q))).members (cpu_of q) ≡ true)
      place = at_place P (cpu_of q) (may_ask P S q accepted).scaled.fit.table

      step : Last S (ops ++ bound_ops P q) → Last (changed S q) ((ops ++ bound_ops P q) ++ standing_ops P S (changed S q) (cpu_of q))
      step now = elim (cases_eq (domain_of P (cpu_of q)) d) [
        | inl same ↦ subst (λ k. Last (changed S q) ((ops ++ bound_ops P q) ++ set_anew P S (changed S q) k (cpu_of q) (domain_at P k).coord)) (sym same)
            (here S (changed S q) (cpu_of q) (ops ++ bound_ops P q) (subst (λ k. has_member (domain_at P k).members (cpu_of q) ≡ true) same place.1) (changed_same S q) now)
        | inr other ↦ away S q (ops ++ bound_ops P q) place.0 place.1 other now
      ]

-- # Of a member that is set itself

module _ (P : CppcPlan) (d p : ℕ) (is : IsFitMember P d p) (own : HasOwnRegisters P p) (each : (domain_at P d).coord ≢ SwAny)
    (r : Register) (has : register_of controls.Desired (parts_at P p) ≡ Some r) where
  self : IsWatched P d (itself p)
  self = watched P d p is own

  set_self : (v : ℕ) → IsLastSetOn P controls.Desired (itself p) v (set_on P controls.Desired p v)
  set_self v = set_last P controls.Desired (itself p) p v r refl has

  others : (q v : ℕ) → q ≢ p → Spares P controls.Desired (itself p) (set_on P controls.Desired q v)
  others q v ne = spares_cpu P controls.Desired (itself p) d self controls.Desired q v ne

  self_opens : IsLastSetOn P controls.Desired (itself p) (standing P (opening P) d p) (opening_ops P)
  self_opens = opens P controls.Desired (itself p) d self (standing P (opening P) d p) (last_before P controls.Desired (itself p) (standing P (opening P) d p) (ranges_in P d)
      (desired_in P d) (by (domain_at P d).coord refl))
    where
      all : IsLastSetOn P controls.Desired (itself p) (standing P (opening P) d p) (flat_map (at_start P d) (domain_at P d).members)
      all = last_among P controls.Desired (itself p) (standing P (opening P) d p) (at_start P d) p (domain_at P d).members is.member
          (set_self (standing P (opening P) d p)) (λ q ne. others q (standing P (opening P) d q) ne)

      by : (x : Coord) → (domain_at P d).coord ≡ x → IsLastSetOn P controls.Desired (itself p) (standing P (opening P) d p) (flat_map (at_start P d) (opening_at x (domain_at P d).members))
      by SwAll e = all
      by HwAll e = all
      by SwAny e = absurd (each e)

  module _ (S T : CppcNumbers) (q : ℕ) (ops : List Op) (in_d : has_member (domain_at P d).members q ≡ true) (same : (m : ℕ) → m ≢ q → Same S T m)
      (last : IsLastSetOn P controls.Desired (itself p) (standing P S d p) ops) where
    abbrev Now : List Op → Type 0
    Now more = IsLastSetOn P controls.Desired (itself p) (standing P T d p) (ops ++ more)

    still : standing P S d p ≡ standing P T d p → Now []
    still e = rw append-nil (moved P d p is (itself p) self S T ops e last)

    together : is_software (domain_at P d).coord ≡ true → (b : Bool) → (standing P S d q == standing P T d q) ≡ b
        → Now (cond b [] (flat_map (λ m. set_on P controls.Desired m (standing P T d q)) (domain_at P d).members))
    together software true e = still (for_all P S d p q software ∙ eqb-true (standing P S d q) (standing P T d q) e ∙ for_all P T d q p software)
    together software false e =
        last_before P controls.Desired (itself p) (standing P T d p) ops (flat_map (λ m. set_on P controls.Desired m (standing P T d q)) (domain_at P d).members)
        (last_among P controls.Desired (itself p) (standing P T d p) (λ m. set_on P controls.Desired m (standing P T d q)) p (domain_at P d).members is.member
        (subst (λ v. IsLastSetOn P controls.Desired (itself p) v (set_on P controls.Desired p (standing P T d q))) (for_all P T d q p software) (set_self (standing P T d q)))
        (λ m ne. others m (standing P T d q) ne))

    alone : (b : Bool) → (standing P S d p == standing P T d p) ≡ b → Now (cond b [] (set_on P controls.Desired p (standing P T d p) ++ []))
    alone true e = still (eqb-true (standing P S d p) (standing P T d p) e)
    alone false e = last_before P controls.Desired (itself p) (standing P T d p) ops (set_on P controls.Desired p (standing P T d p) ++ [])
        (last_append P controls.Desired (itself p) (standing P T d p) (set_on P controls.Desired p (standing P T d p)) [] (set_self (standing P T d p)) (spares_none P controls.Desired (itself p)))

    spared : q ≢ p → (b : Bool) → Spares P controls.Desired (itself p) (cond b [] (set_on P controls.Desired q (standing P T d q) ++ []))
    spared ne true = spares_none P controls.Desired (itself p)
    spared ne false = spares_append P controls.Desired (itself p) (set_on P controls.Desired q (standing P T d q)) [] (others q (standing P T d q) ne) (spares_none P controls.Desired (itself p))

    self_here : Now (set_anew P S T d q (domain_at P d).coord)
    self_here = by (domain_at P d).coord refl
      where
        by : (x : Coord) → (domain_at P d).coord ≡ x → Now (set_anew P S T d q x)
        by SwAny e = absurd (each e)
        by SwAll e = together (ap is_software e) (standing P S d q == standing P T d q) refl
        by HwAll e = elim (cases_eq q p) [
          | inl is_p ↦ subst (λ i. Now (cond (standing P S d i == standing P T d i) [] (set_on P controls.Desired i (standing P T d i) ++ []))) (sym is_p)
              (alone (standing P S d p == standing P T d p) refl)
          | inr ne ↦ last_append P controls.Desired (itself p) (standing P T d p) ops (set_anew P S T d q HwAll)
              (moved P d p is (itself p) self S T ops (sym (stays_alone P S T d p (ap is_software e) (same p (λ z. ne (sym z))))) last) (spared ne (standing P S d q == standing P T d q))
        ]

  pub desired_stands : (es : List CppcEntry) → Faultless es → IsLastSetOn P controls.Desired (itself p) (standing P (replay P es) d p) (opening_ops P ++ history_ops P es)
  desired_stands es faults = history_stands P (λ S ops. IsLastSetOn P controls.Desired (itself p) (standing P S d p) ops) (desired_keeps P d p is (itself p) self self_here) es faults self_opens

-- # Any control of a member that is set itself

pub said_stands : (P : CppcPlan) (d p : ℕ) → IsFitMember P d p → HasOwnRegisters P p → (c : Control) → is_some (register_of c (parts_at P p)) ≡ true
    → (c ≡ controls.Desired → (domain_at P d).coord ≢ SwAny)
    → (es : List CppcEntry) → Faultless es → IsLastSetOn P c (λ q. q ≡ p) (said_by c P (replay P es) d p) (opening_ops P ++ history_ops P es)
said_stands P d p is own controls.Desired has each es faults = let r = some_register (register_of controls.Desired (parts_at P p)) has in desired_stands P d p is own (each refl) r.0 r.1 es faults
said_stands P d p is own controls.Minimum has each es faults = let r = some_register (register_of controls.Minimum (parts_at P p)) has in minimum_stands P d p is own r.0 r.1 es faults
said_stands P d p is own controls.Maximum has each es faults = let r = some_register (register_of controls.Maximum (parts_at P p)) has in maximum_stands P d p is own r.0 r.1 es faults

-- # Of a domain of which any member is set

module _ (P : CppcPlan) (d p : ℕ) (is : IsFitMember P d p) (any : (domain_at P d).coord ≡ SwAny) (own : (q : ℕ) → has_member (domain_at P d).members q ≡ true → HasOwnRegisters P q) where
  abbrev a_member : ℕ → Type 0
  a_member q = has_member (domain_at P d).members q ≡ true

  all_watched : IsWatched P d a_member
  all_watched = record { exists = is.exists; fit = is.fit; members = λ q e. e; own = own }

  software : is_software (domain_at P d).coord ≡ true
  software = ap is_software any

  -- on whichever it is set
  set_any : (S : CppcNumbers) (q : ℕ) → has_member (domain_at P d).members q ≡ true → IsLastSetOn P controls.Desired a_member (standing P S d p) (set_on P controls.Desired q (standing P S d q) ++ [])
  set_any S q in_d =
      let r = some_register (register_of controls.Desired (parts_at P q)) (P.sound.registered d no_domain is.exists q is.fit in_d) in
      last_append P controls.Desired a_member (standing P S d p) (set_on P controls.Desired q (standing P S d q)) []
      (subst (λ v. IsLastSetOn P controls.Desired a_member v (set_on P controls.Desired q (standing P S d q))) (for_all P S d q p software)
      (set_last P controls.Desired a_member q (standing P S d q) r.0 in_d r.1))
      (spares_none P controls.Desired a_member)

  any_opens : IsLastSetOn P controls.Desired a_member (standing P (opening P) d p) (opening_ops P)
  any_opens = opens P controls.Desired a_member d all_watched (standing P (opening P) d p) (last_before P controls.Desired a_member (standing P (opening P) d p) (ranges_in P d)
      (desired_in P d) (by (domain_at P d).coord (domain_at P d).members any is.member refl))
    where
      by : (x : Coord) (ms : List ℕ) → x ≡ SwAny → has_member ms p ≡ true → ms ≡ (domain_at P d).members
          → IsLastSetOn P controls.Desired a_member (standing P (opening P) d p) (flat_map (at_start P d) (opening_at x ms))
      by SwAll ms e m same = cc
      by HwAll ms e m same = cc
      by SwAny [] e m same = cc
      by SwAny (q ∷ ms) e m same = set_any (opening P) q (ap (λ xs. has_member xs q) (sym same) ∙ or_left (q == q) (has_member ms q) (own_number q))

  any_here : (S T : CppcNumbers) (q : ℕ) (ops : List Op) → has_member (domain_at P d).members q ≡ true → ((m : ℕ) → m ≢ q → Same S T m) → IsLastSetOn P controls.Desired a_member (standing P S d p) ops
      → IsLastSetOn P controls.Desired a_member (standing P T d p) (ops ++ set_anew P S T d q (domain_at P d).coord)
  any_here S T q ops in_d same last = subst (λ x. IsLastSetOn P controls.Desired a_member (standing P T d p) (ops ++ set_anew P S T d q x)) (sym any) (step (standing P S d q == standing P T d q) refl)
    where
      step : (b : Bool) → (standing P S d q == standing P T d q) ≡ b
          → IsLastSetOn P controls.Desired a_member (standing P T d p) (ops ++ cond b [] (set_on P controls.Desired q (standing P T d q) ++ []))
      step true e = rw append-nil (moved P d p is a_member all_watched S T ops (for_all P S d p q software ∙ eqb-true (standing P S d q) (standing P T d q) e ∙ for_all P T d q p software) last)
      step false e = last_before P controls.Desired a_member (standing P T d p) ops (set_on P controls.Desired q (standing P T d q) ++ []) (set_any T q in_d)

  pub any_stands : (es : List CppcEntry) → Faultless es → IsLastSetOn P controls.Desired a_member (standing P (replay P es) d p) (opening_ops P ++ history_ops P es)
  any_stands es faults = history_stands P (λ S ops. IsLastSetOn P controls.Desired a_member (standing P S d p) ops) (desired_keeps P d p is a_member all_watched any_here) es faults any_opens
