-- What the reply tells of a request's operations.
use Rattle.std.proofs.Common.{◌≡◌, ◌≢◌, ◌<◌, ◌≤◌, ◌==◌, ◌++◌, ◌∙◌, ℕ, Bool, true, false, cond, List, [], ◌∷◌, length, map, max, min, get_or, Option, Some, None, refl, ap, sym, subst, arith, inl, inr}
use Rattle.std.specs.Prelude.{fold, is_some}
use Rattle.std.proofs.lemmas.Bool.{cases_lt}
use Rattle.std.proofs.lemmas.Bool.Decides.{nat_tests}
use Rattle.std.proofs.lemmas.List.{get_or-set_same, get_or_past}
use Rattle.acpi_values.specs.declared.idle.IdleKind.{IdleKind}
use Rattle.acpi_values.specs.declared.idle.IdleKind.TheVariants.{Lpi, Cst, Absent}
use Rattle.acpi_values.specs.declared.operation.Chain.{Chain}
use Rattle.acpi_values.specs.declared.operation.Op.{Op}
use Rattle.acpi_values.specs.declared.operation.Op.TheVariants.{Enter}
use Rattle.pw_plan.specs.declared.domain.DomainKind.{DomainKind}
use Rattle.pw_plan.specs.declared.domain.DomainKind.TheVariants as kinds
use Rattle.pw_plan.specs.declared.parts.Scale.{Scale}
use Rattle.pw_plan.specs.declared.plan.Plan.{Plan}
use Rattle.pw_plan.specs.declared.request.Request.{Request}
use Rattle.pw_plan.specs.declared.request.Request.TheVariants.{Idle, Wake, Perf, Throttle, PerfLimit, ThrottleLimit}
use Rattle.pw_plan.specs.Groups.{is_software}
use Rattle.pw_plan.specs.Parts.{count_of, scale_of}
use Rattle.pw_plan.specs.Places.{cpu_at, domain_at, domain_of, group_of}
use Rattle.pw_plan.specs.Requests.{Has, cpu_of, domain_bound, ops_bound}
use Rattle.pw_model.specs.declared.reply.Reply.{Reply}
use Rattle.pw_model.specs.declared.reply.Reply.TheVariants.{AboveLimit, Disabled, Entered, NoState, NoTable, Running, Stands, TooSlow, Unfit}
use Rattle.pw_model.specs.declared.state.State.{State}
use Rattle.pw_model.specs.declared.state.Vote.{Vote}
use Rattle.pw_model.specs.States.{IsIndex, IsState, ask_of, idling, limit_of, limits_of, running, vote_of}
use Rattle.pw_model.specs.Answers.{accepted, after, answer, chain_of, changed, if_accepted, stands, states_of}
use Rattle.pw_model.specs.Composites.{composite_of}
use Rattle.pw_model.specs.Domains.{c_state, standing, stands_at}
use Rattle.pw_model.specs.Operations.{accepted_ops, domain_ops, enter, idle_ops, ops_of, own_entry, set_at, set_on}
use Rattle.pw_model.specs.Refusals.{idle_refusal, is_absent, limit_refusal, refusal}
use Rattle.pw_model.proofs.Bounds.{drawn-few}
use Rattle.pw_model.proofs.Fitting.{IdleFits, accepted_fixed, ask_scale, changed_fits, domain_scale, idle_fits, none_first, placed}
use Rattle.pw_model.proofs.Reasons.{AskReason, LimitReason, Reason, alone, ask_reason, idle_reason, limit_reason}
use Rattle.pw_core.specs.Chains.{AreStatesOf, IsChain, states_in}
use Rattle.pw_core.proofs.Climbing.{chain_fits}
use Rattle.pw_core.proofs.Drawing.{nobody_drawn, own_enters, own_stays}
use Rattle.pw_script.specs.inner.Known.{accepts, entered_alone, kind_of}

-- # Replies of requests that are accepted, and of refusals

accepted_accepts : (P : Plan) (T : State) (q : Request) → accepts (accepted P T q) ≡ true
unfolding accepted
accepted_accepts P T (Idle p s t) = refl
accepted_accepts P T (Wake p) = refl
accepted_accepts P T (Perf p i) = refl
accepted_accepts P T (Throttle p i) = refl
accepted_accepts P T (PerfLimit p n) = refl
accepted_accepts P T (ThrottleLimit p n) = refl

idle_refuses : (P : Plan) (p s t : ℕ) (r : Reply) → Reason P p s t r → accepts r ≡ false
idle_refuses P p s t (Entered c) h = absurd h
idle_refuses P p s t Running h = absurd h
idle_refuses P p s t (Stands i) h = absurd h
idle_refuses P p s t (NoState n) h = refl
idle_refuses P p s t Disabled h = refl
idle_refuses P p s t (AboveLimit l) h = refl
idle_refuses P p s t NoTable h = refl
idle_refuses P p s t (Unfit d why) h = refl
idle_refuses P p s t (TooSlow l) h = refl

limit_refuses : (P : Plan) (kind : DomainKind) (p : ℕ) (r : Reply) → LimitReason P kind p r → accepts r ≡ false
limit_refuses P kind p (Entered c) h = absurd h
limit_refuses P kind p Running h = absurd h
limit_refuses P kind p (Stands i) h = absurd h
limit_refuses P kind p (NoState n) h = refl
limit_refuses P kind p Disabled h = refl
limit_refuses P kind p (AboveLimit l) h = refl
limit_refuses P kind p NoTable h = refl
limit_refuses P kind p (Unfit d why) h = refl
limit_refuses P kind p (TooSlow l) h = refl

ask_refuses : (P : Plan) (kind : DomainKind) (p : ℕ) (S : State) (i : ℕ) (r : Reply) → AskReason P kind p S i r → accepts r ≡ false
ask_refuses P kind p S i (Entered c) h = absurd h
ask_refuses P kind p S i Running h = absurd h
ask_refuses P kind p S i (Stands j) h = absurd h
ask_refuses P kind p S i (NoState n) h = refl
ask_refuses P kind p S i Disabled h = refl
ask_refuses P kind p S i (AboveLimit l) h = refl
ask_refuses P kind p S i NoTable h = refl
ask_refuses P kind p S i (Unfit d why) h = refl
ask_refuses P kind p S i (TooSlow l) h = refl

refuses : (P : Plan) (S : State) (q : Request) (r : Reply) → refusal P S q ≡ Some r → accepts r ≡ false
refuses P S (Idle p s t) r e = idle_refuses P p s t r (idle_reason P p s t r (alone (idle_refusal P p s t) r e))
refuses P S (Wake p) r e = cc
refuses P S (Perf p i) r e = ask_refuses P kinds.Perf p S i r (ask_reason P kinds.Perf p S i r e)
refuses P S (Throttle p i) r e = ask_refuses P kinds.Throttle p S i r (ask_reason P kinds.Throttle p S i r e)
refuses P S (PerfLimit p n) r e = limit_refuses P kinds.Perf p r (limit_reason P kinds.Perf p r (alone (limit_refusal P kinds.Perf p) r e))
refuses P S (ThrottleLimit p n) r e = limit_refuses P kinds.Throttle p r (limit_reason P kinds.Throttle p r (alone (limit_refusal P kinds.Throttle p) r e))

pub none_refused : (P : Plan) (S : State) (q : Request) → accepts (answer P S q) ≡ true → refusal P S q ≡ None
unfolding answer
none_refused P S q e = step (refusal P S q) refl e
  where
    step : (r : Option Reply) → refusal P S q ≡ r → accepts (if_accepted r (λ reply. reply) (accepted P (changed P S q) q)) ≡ true → refusal P S q ≡ None
    step None is e = is
    step (Some x) is e = let no = refuses P S q x is in let clash : true ≡ false = sym e ∙ no in cc

-- a refusal changes nothing
pub refused_stays : (P : Plan) (S : State) (q : Request) → accepts (answer P S q) ≡ false → after P S q ≡ S
unfolding answer after
refused_stays P S q e = step (refusal P S q) e
  where
    step : (r : Option Reply) → accepts (if_accepted r (λ reply. reply) (accepted P (changed P S q) q)) ≡ false
        → if_accepted r (λ reply. S) (changed P S q) ≡ S
    step None e = let yes = accepted_accepts P (changed P S q) q in let clash : true ≡ false = sym yes ∙ e in cc
    step (Some x) e = refl

-- a refusal operates nothing
refused_nothing : (P : Plan) (S : State) (q : Request) → accepts (answer P S q) ≡ false → ops_of P S q ≡ []
unfolding answer ops_of
refused_nothing P S q e = step (refusal P S q) e
  where
    step : (r : Option Reply) → accepts (if_accepted r (λ reply. reply) (accepted P (changed P S q) q)) ≡ false
        → if_accepted r (λ reply. []) (accepted_ops P S (changed P S q) q) ≡ []
    step None e = let yes = accepted_accepts P (changed P S q) q in let clash : true ≡ false = sym yes ∙ e in cc
    step (Some x) e = refl

accepted_told : (P : Plan) (S : State) (q : Request) → refusal P S q ≡ None → answer P S q ≡ accepted P (changed P S q) q
unfolding answer
accepted_told P S q e = rw e refl

accepted_operates : (P : Plan) (S : State) (q : Request) → refusal P S q ≡ None → ops_of P S q ≡ accepted_ops P S (changed P S q) q
unfolding ops_of
accepted_operates P S q e = rw e refl

-- what is answered neither by a chain nor by where a domain stands operates nothing
pub nothing_operated : (P : Plan) (S : State) (q : Request) (r : Reply) → answer P S q ≡ r → ((c : Chain) → r ≢ Entered c) → ((i : ℕ) → r ≢ Stands i) → ops_of P S q ≡ []
unfolding accepted accepted_ops
nothing_operated P S q r e enters places = step (accepts (answer P S q)) refl
  where
    running : (q : Request) → refusal P S q ≡ None → accepted P (changed P S q) q ≡ r → ops_of P S q ≡ []
    running (Idle p s t) none is = absurd (enters _ (sym is))
    running (Wake p) none is = accepted_operates P S (Wake p) none
    running (Perf p i) none is = absurd (places _ (sym is))
    running (Throttle p i) none is = absurd (places _ (sym is))
    running (PerfLimit p n) none is = absurd (places _ (sym is))
    running (ThrottleLimit p n) none is = absurd (places _ (sym is))

    step : (b : Bool) → accepts (answer P S q) ≡ b → ops_of P S q ≡ []
    step false f = refused_nothing P S q f
    step true f = let none = none_refused P S q f in running q none (sym (accepted_told P S q none) ∙ e)

-- # Idle requests

-- what a chain that is the reply tells
pub record Tells (P : Plan) (S : State) (q : Request) (c : Chain) : Type 0 where
  pub chain : 0 < get_or c.states 0 0 → IsChain c
  pub states : 0 < get_or c.states 0 0 → AreStatesOf P (cpu_of q) (states_in c)
  pub bound : 1 ≤ ops_bound P q
  pub alone : length P.groups ≤ group_of P (cpu_of q) → ops_of P S q ≡ entered_alone P (cpu_of q) c

present : (kind : IdleKind) → is_absent kind ≡ false → kind ≢ Absent
present Lpi e is = cc
present Cst e is = cc
present Absent e is = cc

append_nil : (xs : List Op) → xs ++ [] ≡ xs
append_nil [] = refl
append_nil (x ∷ xs) = ap (λ ys. x ∷ ys) (append_nil xs)

module _ (P : Plan) (S : State) (c : Chain) (fits : IsState P S) where
  module _ (p s t : ℕ) (lt : p < length P.cpus) (none : refusal P S (Idle p s t) ≡ None) where
    abbrev T : State
    T = changed P S (Idle p s t)

    fits_after : IsState P T
    fits_after = changed_fits P S (Idle p s t) fits lt none

    idle : IdleFits P p s
    idle = idle_fits P p s t (none_first (idle_refusal P p s t) None none)

    voted : (vote_of T p).state ≡ s
    voted = ap (λ (v : Vote). v.state) (get_or-set_same S.votes p (idling s t) running (let size = fits.votes in omega (arith, size, lt)))

    module _ (is : c ≡ chain_of (states_of P T p)) where
      own_is : own_entry (cpu_at P p).idle.kind (c_state P T p) (enter P T p) ≡ entered_alone P p c
      own_is = elim (cases_lt 0 (get_or c.states 0 0)) [
        | inl above ↦
            let fit = chain_fits P T p c lt fits_after is above in
            let some : (get_or c.states 0 0 == 0) ≡ false = grind (arith, nat_tests, above) in
            own_enters P T p c is (present (cpu_at P p).idle.kind idle.table) above
            ∙ ap (λ ss. Enter p (composite_of P p ss) ∷ []) (sym fit.told)
            ∙ ap (λ b. cond b [] (Enter p (composite_of P p (states_in c)) ∷ [])) (sym some)
        | inr least ↦
            let zero : (get_or c.states 0 0 == 0) ≡ true = grind (arith, nat_tests, least) in
            let idles = idle.idles in
            own_stays P T p c is (present (cpu_at P p).idle.kind idle.table) (rw voted idles) least
            ∙ ap (λ b. cond b [] (Enter p (composite_of P p (states_in c)) ∷ [])) (sym zero)
      ]

      alone_is : length P.groups ≤ group_of P p → idle_ops P S T p ≡ entered_alone P p c
      alone_is past =
          ap (λ qs. own_entry (cpu_at P p).idle.kind (c_state P T p) (enter P T p) ++ map (enter P T) qs) (nobody_drawn P S T p past)
          ∙ append_nil (own_entry (cpu_at P p).idle.kind (c_state P T p) (enter P T p)) ∙ own_is

      idle_is : Tells P S (Idle p s t) c
      unfolding accepted_ops
      idle_is = record {
        chain = λ above. (chain_fits P T p c lt fits_after is above).chain;
        states = λ above. (chain_fits P T p c lt fits_after is above).fit;
        bound = let few = drawn-few P S T p in omega (arith, few);
        alone = λ past. accepted_operates P S (Idle p s t) none ∙ alone_is past;
      }

    idle_tells : accepted P T (Idle p s t) ≡ Entered c → Tells P S (Idle p s t) c
    unfolding accepted
    idle_tells e = let is : c ≡ chain_of (states_of P T p) = cc in idle_is is

  pub tells : (q : Request) → Has P q → answer P S q ≡ Entered c → Tells P S q c
  unfolding accepted
  tells q has e = by q has (none_refused P S q (ap accepts e)) e
    where
      by : (q : Request) → Has P q → refusal P S q ≡ None → answer P S q ≡ Entered c → Tells P S q c
      by (Idle p s t) lt none e = idle_tells p s t lt none (sym (accepted_told P S (Idle p s t) none) ∙ e)
      by (Wake p) lt none e = let is = sym (accepted_told P S (Wake p) none) ∙ e in cc
      by (Perf p i) lt none e = let is = sym (accepted_told P S (Perf p i) none) ∙ e in cc
      by (Throttle p i) lt none e = let is = sym (accepted_told P S (Throttle p i) none) ∙ e in cc
      by (PerfLimit p n) lt none e = let is = sym (accepted_told P S (PerfLimit p n) none) ∙ e in cc
      by (ThrottleLimit p n) lt none e = let is = sym (accepted_told P S (ThrottleLimit p n) none) ∙ e in cc

-- # Requests on a domain

max_few : {X : Type 0} (f : X → ℕ) (least : ℕ) (xs : List X) → least ≤ 255 → ((x : X) → f x ≤ 255) → fold max least (map f xs) ≤ 255
max_few f least [] le each = le
max_few f least (x ∷ xs) le each = max_few f (max least (f x)) xs (let own = each x in omega (arith, le, own)) each

min_few : {X : Type 0} (f : X → ℕ) (most : ℕ) (xs : List X) → most ≤ 255 → fold min most (map f xs) ≤ 255
min_few f most [] le = le
min_few f most (x ∷ xs) le = min_few f (min most (f x)) xs (omega (arith, le))

index_few : (scale : Option Scale) (i : ℕ) → count_of scale ≤ 255 → IsIndex scale i → i ≤ 255
index_few None i few is = omega (arith, is)
index_few (Some scale) i few is = omega (arith, few, is)

module _ (P : Plan) (T : State) (fits : IsState P T) where
  limits_few : (kind : DomainKind) (p : ℕ) → limit_of kind T p ≤ 255
  limits_few kind p = elim (cases_lt p (length P.cpus)) [
    | inl lt ↦ index_few (scale_of kind (cpu_at P p)) (limit_of kind T p) (P.sound.small.states kind p) (fits.limit kind p lt)
    | inr past ↦ rw (get_or_past (limits_of kind T) p 0 (long kind past)) (omega arith)
  ]
    where
      long : (kind : DomainKind) → length P.cpus ≤ p → length (limits_of kind T) ≤ p
      long kinds.Perf past = let size = fits.perf_limits in omega (arith, size, past)
      long kinds.Throttle past = let size = fits.throttle_limits in omega (arith, size, past)
      long kinds.Idle past = omega arith

  asks_few : (kind : DomainKind) (p : ℕ) → p < length P.cpus → ask_of kind T p ≤ 255
  asks_few kind p lt = index_few (scale_of kind (cpu_at P p)) (ask_of kind T p) (P.sound.small.states kind p) (fits.ask kind p lt)

  standing_few : (d p : ℕ) → p < length P.cpus → standing P T d p ≤ 255
  standing_few d p lt = by (is_software (domain_at P d).coord)
    where
      by : (b : Bool) → cond b (stands_at (map (ask_of (domain_at P d).kind T) (domain_at P d).members) (map (limit_of (domain_at P d).kind T) (domain_at P d).members))
          (max (limit_of (domain_at P d).kind T p) (ask_of (domain_at P d).kind T p)) ≤ 255
      by true =
          let a = max_few (limit_of (domain_at P d).kind T) 0 (domain_at P d).members (omega arith) (limits_few (domain_at P d).kind) in
          let b = min_few (ask_of (domain_at P d).kind T) 255 (domain_at P d).members (omega arith) in
          omega (arith, a, b)
      by false =
          let a = limits_few (domain_at P d).kind p in
          let b = asks_few (domain_at P d).kind p lt in
          omega (arith, a, b)

-- what the place of a domain that is the reply tells
pub record TellsPlace (P : Plan) (S : State) (q : Request) (i : ℕ) : Type 0 where
  pub placed : domain_of P (kind_of q) (cpu_of q) < length P.domains
  pub few : i ≤ 255
  pub bound : ops_bound P q ≡ domain_bound P (kind_of q) (cpu_of q)
  pub ops : ops_of P S q ≡ cond (standing P S (domain_of P (kind_of q) (cpu_of q)) (cpu_of q) == i) []
      (map (set_on P (kind_of q) i) (set_at (domain_at P (domain_of P (kind_of q) (cpu_of q))).coord (domain_at P (domain_of P (kind_of q) (cpu_of q))).members (cpu_of q)))

module _ (P : Plan) (S : State) (i : ℕ) (fits : IsState P S) where
  module _ (q : Request) (lt : cpu_of q < length P.cpus) (has : Has P q) (none : refusal P S q ≡ None) where
    abbrev next : State
    next = changed P S q

    fits_next : IsState P next
    fits_next = changed_fits P S q fits has none

    place_is : is_some (scale_of (kind_of q) (cpu_at P (cpu_of q))) ≡ true → ops_bound P q ≡ domain_bound P (kind_of q) (cpu_of q)
        → accepted_ops P S next q ≡ domain_ops P S next (kind_of q) (cpu_of q) → stands P next (kind_of q) (cpu_of q) ≡ Stands i → TellsPlace P S q i
    place_is some bound ops e =
        let d = domain_of P (kind_of q) (cpu_of q) in
        let is : standing P next d (cpu_of q) ≡ i = cc in
        record {
          placed = placed P (kind_of q) (cpu_of q) lt some;
          few = subst (λ k. k ≤ 255) is (standing_few P next fits_next d (cpu_of q) lt);
          bound = bound;
          ops = accepted_operates P S q none ∙ ops
              ∙ ap (λ k. cond (standing P S d (cpu_of q) == k) [] (map (set_on P (kind_of q) k) (set_at (domain_at P d).coord (domain_at P d).members (cpu_of q)))) is;
        }

  pub tells_place : (q : Request) → Has P q → answer P S q ≡ Stands i → TellsPlace P S q i
  unfolding accepted accepted_ops
  tells_place q has e = by q has (none_refused P S q (ap accepts e)) e
    where
      by : (q : Request) → Has P q → refusal P S q ≡ None → answer P S q ≡ Stands i → TellsPlace P S q i
      by (Idle p s t) lt none e = let is = sym (accepted_told P S (Idle p s t) none) ∙ e in cc
      by (Wake p) lt none e = let is = sym (accepted_told P S (Wake p) none) ∙ e in cc
      by (Perf p n) lt none e =
          place_is (Perf p n) lt lt none (ask_scale P kinds.Perf p n (accepted_fixed P S (Perf p n) none)) refl refl (sym (accepted_told P S (Perf p n) none) ∙ e)
      by (Throttle p n) lt none e =
          place_is (Throttle p n) lt lt none (ask_scale P kinds.Throttle p n (accepted_fixed P S (Throttle p n) none)) refl refl (sym (accepted_told P S (Throttle p n) none) ∙ e)
      by (PerfLimit p n) lt none e =
          place_is (PerfLimit p n) lt lt none (domain_scale P kinds.Perf p (accepted_fixed P S (PerfLimit p n) none)) refl refl (sym (accepted_told P S (PerfLimit p n) none) ∙ e)
      by (ThrottleLimit p n) lt none e =
          place_is (ThrottleLimit p n) lt lt none (domain_scale P kinds.Throttle p (accepted_fixed P S (ThrottleLimit p n) none)) refl refl (sym (accepted_told P S (ThrottleLimit p n) none) ∙ e)
