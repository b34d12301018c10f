-- Limits behind a request.
use Rattle.std.proofs.Common.{◌≡◌, ◌≢◌, ◌∙◌, ◌++◌, ◌∷◌, ℕ, List, [], get_or, set, Option, Some, None, refl, ap, sym, subst}
use Rattle.std.proofs.lemmas.List.{map-append}
use Rattle.pw_plan.specs.declared.domain.DomainKind.TheVariants as kinds
use Rattle.pw_plan.specs.declared.plan.Plan.{Plan}
use Rattle.pw_plan.specs.declared.request.Request.{Request}
use Rattle.pw_plan.specs.declared.request.Request.TheVariants.{Idle, Wake, Perf, Throttle, PerfLimit, ThrottleLimit}
use Rattle.pw_plan.specs.Parts.{scale_of}
use Rattle.pw_plan.specs.Places.{cpu_at}
use Rattle.pw_model.specs.declared.reply.Reply.{Reply}
use Rattle.pw_model.specs.declared.state.ScaleKind.{ScaleKind}
use Rattle.pw_model.specs.declared.state.ScaleKind.TheVariants as scales
use Rattle.pw_model.specs.declared.state.State.{State}
use Rattle.pw_model.specs.Answers.{after, changed, if_accepted}
use Rattle.pw_model.specs.Refusals.{refusal}
use Rattle.pw_model.specs.States.{capped, limit_of}
use Rattle.pw_notice.specs.Limits.{kind_of, made_from}
use Rattle.pw_script.specs.declared.script.Line.{Line as line}
use Rattle.pw_script.specs.Reading.{requests_of}
use Rattle.pw_script.specs.inner.Limiting.{SameLimits}
use Rattle.pw_script.proofs.Making.{made_more}

pub limit_same : (S T : State) (kind : ScaleKind) (p : ℕ) → SameLimits S T → limit_of (kind_of kind) S p ≡ limit_of (kind_of kind) T p
limit_same S T scales.Perf p h = ap (λ (l : List ℕ). get_or l p 0) h.0
limit_same S T scales.Throttle p h = ap (λ (l : List ℕ). get_or l p 0) h.1

module _ (P : Plan) (S T : State) (h : SameLimits S T) where
  -- what sets no limit leaves them
  pub idle_leaves : (p s t : ℕ) → SameLimits S (after P T (Idle p s t))
  unfolding after
  idle_leaves p s t = step (refusal P T (Idle p s t))
    where
      step : (r : Option Reply) → SameLimits S (if_accepted r (λ reply. T) (changed P T (Idle p s t)))
      step None = h
      step (Some reply) = h

  pub wake_leaves : (p : ℕ) → SameLimits S (after P T (Wake p))
  unfolding after
  wake_leaves p = step (refusal P T (Wake p))
    where
      step : (r : Option Reply) → SameLimits S (if_accepted r (λ reply. T) (changed P T (Wake p)))
      step None = h
      step (Some reply) = h

  pub perf_leaves : (p i : ℕ) → SameLimits S (after P T (Perf p i))
  unfolding after
  perf_leaves p i = step (refusal P T (Perf p i))
    where
      step : (r : Option Reply) → SameLimits S (if_accepted r (λ reply. T) (changed P T (Perf p i)))
      step None = h
      step (Some reply) = h

  pub throttle_leaves : (p i : ℕ) → SameLimits S (after P T (Throttle p i))
  unfolding after
  throttle_leaves p i = step (refusal P T (Throttle p i))
    where
      step : (r : Option Reply) → SameLimits S (if_accepted r (λ reply. T) (changed P T (Throttle p i)))
      step None = h
      step (Some reply) = h

  -- a limit is set in both
  pub perf_follows : (p n : ℕ) → SameLimits (after P S (PerfLimit p n)) (after P T (PerfLimit p n))
  unfolding after
  perf_follows p n = step (refusal P S (PerfLimit p n))
    where
      step : (r : Option Reply) → SameLimits (if_accepted r (λ reply. S) (changed P S (PerfLimit p n))) (if_accepted r (λ reply. T) (changed P T (PerfLimit p n)))
      step None = (ap (λ (l : List ℕ). set l p (capped (scale_of kinds.Perf (cpu_at P p)) n)) h.0, h.1)
      step (Some reply) = h

  pub throttle_follows : (p n : ℕ) → SameLimits (after P S (ThrottleLimit p n)) (after P T (ThrottleLimit p n))
  unfolding after
  throttle_follows p n = step (refusal P S (ThrottleLimit p n))
    where
      step : (r : Option Reply) → SameLimits (if_accepted r (λ reply. S) (changed P S (ThrottleLimit p n))) (if_accepted r (λ reply. T) (changed P T (ThrottleLimit p n)))
      step None = (h.0, ap (λ (l : List ℕ). set l p (capped (scale_of kinds.Throttle (cpu_at P p)) n)) h.1)
      step (Some reply) = h

-- what is left of a request more
abbrev pub Notes : Plan → Request → State → State → Type 0
Notes P q S U = (T : State) → SameLimits S T → SameLimits U (after P T q)

pub leaves : (P : Plan) (q : Request) (S : State) → ((p n : ℕ) → q ≢ PerfLimit p n) → ((p n : ℕ) → q ≢ ThrottleLimit p n) → Notes P q S S
leaves P (Idle p s t) S a b T h = idle_leaves P S T h p s t
leaves P (Wake p) S a b T h = wake_leaves P S T h p
leaves P (Perf p i) S a b T h = perf_leaves P S T h p i
leaves P (Throttle p i) S a b T h = throttle_leaves P S T h p i
leaves P (PerfLimit p n) S a b T h = absurd (a p n refl)
leaves P (ThrottleLimit p n) S a b T h = absurd (b p n refl)

-- a loop over the lines, one line further
pub limits_on : (P : Plan) (S T U : State) (items new : List line) (number : ℕ) (q : Request) → new ≡ items ++ record { number = number; request = q } ∷ []
    → Notes P q T U → SameLimits T (made_from P S (requests_of items)) → SameLimits U (made_from P S (requests_of new))
limits_on P S T U items new number q is notes before =
    let asked_for : requests_of new ≡ requests_of items ++ q ∷ [] = ap requests_of is ∙ map-append _ items _ in
    subst (SameLimits U) (sym (made_more P S (requests_of items) q) ∙ ap (made_from P S) (sym asked_for)) (notes (made_from P S (requests_of items)) before)
