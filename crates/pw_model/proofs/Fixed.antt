-- A refusal that no state decides comes in every state: in one at least nothing else is refused.
use Rattle.std.proofs.Common.{◌≡◌, ◌<◌, ℕ, true, false, map, length, get_or, Option, Some, None, refl, sym, ◌∙◌, ap, arith, nat_lt}
use Rattle.std.specs.Prelude.{is_some}
use Rattle.std.proofs.lemmas.Bool.Decides.{nat_tests}
use Rattle.std.proofs.lemmas.List.{get_or-map, length-map}
use Rattle.pw_plan.specs.declared.domain.DomainKind.{DomainKind}
use Rattle.pw_plan.specs.declared.domain.DomainKind.TheVariants as kinds
use Rattle.pw_plan.specs.declared.parts.CpuParts.{CpuParts}
use Rattle.pw_plan.specs.declared.parts.Scale.{Scale}
use Rattle.pw_plan.specs.declared.plan.Plan.{Plan}
use Rattle.pw_plan.specs.declared.request.Request.TheVariants.{Idle, Wake, Perf, Throttle, PerfLimit, ThrottleLimit}
use Rattle.pw_plan.specs.declared.request.Request.{Request}
use Rattle.pw_plan.specs.Parts.{count_of, no_cpu, scale_of}
use Rattle.pw_plan.specs.Places.{cpu_at}
use Rattle.pw_plan.specs.Requests.{Has}
use Rattle.pw_model.specs.declared.reply.Reply.{Reply}
use Rattle.pw_model.specs.declared.reply.Reply.TheVariants.{AboveLimit}
use Rattle.pw_model.specs.declared.state.State.{State}
use Rattle.pw_model.specs.States.{IsIndex, IsState, ask_of, limit_of, running}
use Rattle.pw_model.specs.Refusals.{fixed_refusal, refusal, refuse_if, state_refusal, ◌or_else◌}

-- # A state in which each limit is the fastest

unlimited : Plan → State
unlimited P = record {
  votes = map (λ c. running) P.cpus;
  perf_asks = map (λ c. 0) P.cpus;
  perf_limits = map (λ c. 0) P.cpus;
  throttle_asks = map (λ c. 0) P.cpus;
  throttle_limits = map (λ c. 0) P.cpus;
}

module _ (P : Plan) where
  zero_at : (p : ℕ) → p < length P.cpus → ◌≡◌ {A = ℕ} (get_or (map (λ (c : CpuParts). 0) P.cpus) p 0) 0
  zero_at p lt = get_or-map (λ (c : CpuParts). 0) P.cpus p no_cpu 0 lt

  running_at : (p : ℕ) → p < length P.cpus → get_or (map (λ (c : CpuParts). running) P.cpus) p running ≡ running
  running_at p lt = get_or-map (λ (c : CpuParts). running) P.cpus p no_cpu running lt

  fastest : (kind : DomainKind) (p : ℕ) → IsIndex (scale_of kind (cpu_at P p)) 0
  fastest kind p = by (scale_of kind (cpu_at P p)) (P.sound.small.some_states kind p)
    where
      by : (scale : Option Scale) → (is_some scale ≡ true → 0 < count_of scale) → IsIndex scale 0
      by None positive = refl
      by (Some scale) positive = positive refl

  no_ask : (kind : DomainKind) (p : ℕ) → p < length P.cpus → ask_of kind (unlimited P) p ≡ 0
  unfolding unlimited
  no_ask kinds.Perf p lt = zero_at p lt
  no_ask kinds.Throttle p lt = zero_at p lt
  no_ask kinds.Idle p lt = refl

  no_limit : (kind : DomainKind) (p : ℕ) → p < length P.cpus → limit_of kind (unlimited P) p ≡ 0
  unfolding unlimited
  no_limit kinds.Perf p lt = zero_at p lt
  no_limit kinds.Throttle p lt = zero_at p lt
  no_limit kinds.Idle p lt = refl

  unlimited_fits : IsState P (unlimited P)
  unfolding unlimited
  unlimited_fits = record {
    votes = length-map P.cpus (λ (c : CpuParts). running);
    perf_asks = length-map P.cpus (λ (c : CpuParts). 0);
    perf_limits = length-map P.cpus (λ (c : CpuParts). 0);
    throttle_asks = length-map P.cpus (λ (c : CpuParts). 0);
    throttle_limits = length-map P.cpus (λ (c : CpuParts). 0);
    vote = λ p lt. rw (running_at p lt) (omega arith);
    proper = λ p lt. rw (running_at p lt) (λ z. refl);
    ask = λ kind p lt. rw (no_ask kind p lt) (fastest kind p);
    limit = λ kind p lt. rw (no_limit kind p lt) (fastest kind p);
  }

  not_below : (i : ℕ) → nat_lt i 0 ≡ false
  not_below i = grind (arith, nat_tests)

  none_above : (kind : DomainKind) (p i : ℕ) → p < length P.cpus → refuse_if (nat_lt i (limit_of kind (unlimited P) p)) (AboveLimit (limit_of kind (unlimited P) p)) ≡ None
  none_above kind p i lt = ap (λ l. refuse_if (nat_lt i l) (AboveLimit l)) (no_limit kind p lt) ∙ ap (λ b. refuse_if b (AboveLimit 0)) (not_below i)

  no_refusal : (q : Request) → Has P q → state_refusal (unlimited P) q ≡ None
  no_refusal (Idle p s t) has = refl
  no_refusal (Wake p) has = refl
  no_refusal (Perf p i) has = none_above kinds.Perf p i has
  no_refusal (Throttle p i) has = none_above kinds.Throttle p i has
  no_refusal (PerfLimit p n) has = refl
  no_refusal (ThrottleLimit p n) has = refl

  or_none : (a : Option Reply) → (a or_else None) ≡ a
  or_none None = refl
  or_none (Some r) = refl

  -- there every refusal is fixed
  unlimited_refusal : (q : Request) → Has P q → refusal P (unlimited P) q ≡ fixed_refusal P q
  unlimited_refusal q has = ap (λ r. fixed_refusal P q or_else r) (no_refusal q has) ∙ or_none (fixed_refusal P q)

  -- a fixed refusal comes in every state
  pub fixed_comes : (q : Request) (r : Reply) → fixed_refusal P q ≡ Some r → (S : State) → refusal P S q ≡ Some r
  fixed_comes q r e S = ap (λ f. f or_else state_refusal S q) e

  -- and what is refused alike in every state is fixed
  pub comes_fixed : (q : Request) (r : Reply) → Has P q → ((S : State) → IsState P S → refusal P S q ≡ Some r) → fixed_refusal P q ≡ Some r
  comes_fixed q r has h = sym (unlimited_refusal q has) ∙ h (unlimited P) unlimited_fits

  -- what isn't refused so is accepted in some state
  pub fixed_accepts : (q : Request) → Has P q → fixed_refusal P q ≡ None → (S : State) × IsState P S × (refusal P S q ≡ None)
  fixed_accepts q has e = (unlimited P, unlimited_fits, unlimited_refusal q has ∙ e)
