-- Requests of different processors change places: neither is answered otherwise for the other, but for where they stand.
use Rattle.std.proofs.Common.{◌≡◌, ◌≢◌, ℕ, Bool, Option, Some, None, refl, ap, sym, ◌∙◌, get_or-set_other}
use Rattle.std.proofs.lemmas.List.{set_comm}
use Rattle.pw_plan.specs.declared.domain.DomainKind.{DomainKind}
use Rattle.pw_plan.specs.declared.domain.DomainKind.TheVariants as kinds
use Rattle.pw_plan.specs.declared.plan.Plan.{Plan}
use Rattle.pw_plan.specs.declared.request.Request.{Request}
use Rattle.pw_plan.specs.declared.request.Request.TheVariants.{Idle, Wake, Perf, Throttle, PerfLimit, ThrottleLimit}
use Rattle.pw_plan.specs.Parts.{scale_of}
use Rattle.pw_plan.specs.Places.{cpu_at}
use Rattle.pw_plan.specs.Requests.{cpu_of}
use Rattle.pw_model.specs.declared.reply.Reply.{Reply}
use Rattle.pw_model.specs.declared.state.State.{State}
use Rattle.pw_model.specs.States.{capped, idling, limit_of, running}
use Rattle.pw_model.specs.Answers.{accepted, after, answer, changed, if_accepted}
use Rattle.pw_model.specs.Refusals.{above_limit, fixed_refusal, refusal, state_refusal, ◌or_else◌}

-- # A processor's own limit

limit_kept : (P : Plan) (S : State) (q : Request) (kind : DomainKind) (p : ℕ) → cpu_of q ≢ p
    → limit_of kind (changed P S q) p ≡ limit_of kind S p
limit_kept P S (PerfLimit c n) kinds.Perf p ne =
    get_or-set_other S.perf_limits c p (capped (scale_of kinds.Perf (cpu_at P c)) n) 0 (λ e. ne (sym e))
limit_kept P S (ThrottleLimit c n) kinds.Throttle p ne =
    get_or-set_other S.throttle_limits c p (capped (scale_of kinds.Throttle (cpu_at P c)) n) 0 (λ e. ne (sym e))
limit_kept P S q kinds.Perf p ne = refl
limit_kept P S q kinds.Throttle p ne = refl
limit_kept P S q kinds.Idle p ne = refl

above_kept : (P : Plan) (S : State) (q : Request) (kind : DomainKind) (p i : ℕ) → cpu_of q ≢ p
    → above_limit (changed P S q) kind p i ≡ above_limit S kind p i
above_kept P S q kind p i ne = rw (limit_kept P S q kind p ne) refl

state_kept : (P : Plan) (S : State) (q r : Request) → cpu_of q ≢ cpu_of r → state_refusal (changed P S q) r ≡ state_refusal S r
state_kept P S q (Idle p s t) ne = refl
state_kept P S q (Wake p) ne = refl
state_kept P S q (Perf p i) ne = above_kept P S q kinds.Perf p i ne
state_kept P S q (Throttle p i) ne = above_kept P S q kinds.Throttle p i ne
state_kept P S q (PerfLimit p n) ne = refl
state_kept P S q (ThrottleLimit p n) ne = refl

refusal_kept : (P : Plan) (S : State) (q r : Request) → cpu_of q ≢ cpu_of r → refusal P (after P S q) r ≡ refusal P S r
unfolding after
refusal_kept P S q r ne = step (refusal P S q)
  where
    step : (a : Option Reply) → refusal P (if_accepted a (λ reply. S) (changed P S q)) r ≡ refusal P S r
    step (Some reply) = refl
    step None = ap (λ x. fixed_refusal P r or_else x) (state_kept P S q r ne)

-- # What is changed

changes_turn : (P : Plan) (S : State) (q r : Request) → cpu_of q ≢ cpu_of r → changed P (changed P S q) r ≡ changed P (changed P S r) q
changes_turn P S (Idle p s t) (Idle c u v) ne = ap (λ vs. record S { votes = vs }) (set_comm S.votes p c (idling s t) (idling u v) ne)
changes_turn P S (Idle p s t) (Wake c) ne = ap (λ vs. record S { votes = vs }) (set_comm S.votes p c (idling s t) running ne)
changes_turn P S (Wake p) (Idle c u v) ne = ap (λ vs. record S { votes = vs }) (set_comm S.votes p c running (idling u v) ne)
changes_turn P S (Wake p) (Wake c) ne = ap (λ vs. record S { votes = vs }) (set_comm S.votes p c running running ne)
changes_turn P S (Perf p i) (Perf c j) ne = ap (λ vs. record S { perf_asks = vs }) (set_comm S.perf_asks p c i j ne)
changes_turn P S (Throttle p i) (Throttle c j) ne = ap (λ vs. record S { throttle_asks = vs }) (set_comm S.throttle_asks p c i j ne)
changes_turn P S (PerfLimit p m) (PerfLimit c n) ne = ap (λ vs. record S { perf_limits = vs })
    (set_comm S.perf_limits p c (capped (scale_of kinds.Perf (cpu_at P p)) m) (capped (scale_of kinds.Perf (cpu_at P c)) n) ne)
changes_turn P S (ThrottleLimit p m) (ThrottleLimit c n) ne = ap (λ vs. record S { throttle_limits = vs })
    (set_comm S.throttle_limits p c (capped (scale_of kinds.Throttle (cpu_at P p)) m) (capped (scale_of kinds.Throttle (cpu_at P c)) n) ne)
changes_turn P S q r ne = refl

after_is : (P : Plan) (S : State) (q : Request) → after P S q ≡ if_accepted (refusal P S q) (λ reply. S) (changed P S q)
unfolding after
after_is P S q = refl

pub after-turns : (P : Plan) (S : State) (q r : Request) → cpu_of q ≢ cpu_of r → after P (after P S q) r ≡ after P (after P S r) q
after-turns P S q r ne =
    side S q r ne ∙ step (refusal P S q) (refusal P S r) ∙ sym (side S r q (λ e. ne (sym e)))
  where
    side : (S : State) (q r : Request) → cpu_of q ≢ cpu_of r
        → after P (after P S q) r
        ≡ if_accepted (refusal P S r)
        (λ reply. if_accepted (refusal P S q) (λ reply. S) (changed P S q))
        (changed P (if_accepted (refusal P S q) (λ reply. S) (changed P S q)) r)
    side S q r ne =
        after_is P (after P S q) r
        ∙ ap (λ x. if_accepted x (λ reply. after P S q) (changed P (after P S q) r)) (refusal_kept P S q r ne)
        ∙ ap (λ T. if_accepted (refusal P S r) (λ reply. T) (changed P T r)) (after_is P S q)

    step : (a b : Option Reply)
        → if_accepted b (λ reply. if_accepted a (λ reply. S) (changed P S q)) (changed P (if_accepted a (λ reply. S) (changed P S q)) r)
        ≡ if_accepted a (λ reply. if_accepted b (λ reply. S) (changed P S r)) (changed P (if_accepted b (λ reply. S) (changed P S r)) q)
    step (Some x) (Some y) = refl
    step (Some x) None = refl
    step None (Some y) = refl
    step None None = changes_turn P S q r ne

-- # Which way a request is answered

-- a test of replies that looks at the request alone, where it isn't refused
abbrev pub IsOfKind : (Reply → Bool) → Type 0
IsOfKind t = (P : Plan) (S T : State) (q : Request) → t (accepted P S q) ≡ t (accepted P T q)

pub answer-kept : (P : Plan) (t : Reply → Bool) → IsOfKind t → (S : State) (q r : Request) → cpu_of q ≢ cpu_of r
    → t (answer P (after P S q) r) ≡ t (answer P S r)
unfolding answer
answer-kept P t kind S q r ne =
    ap (λ x. t (if_accepted x (λ reply. reply) (accepted P (changed P (after P S q) r) r))) (refusal_kept P S q r ne)
    ∙ step (refusal P S r)
  where
    step : (a : Option Reply)
        → t (if_accepted a (λ reply. reply) (accepted P (changed P (after P S q) r) r))
        ≡ t (if_accepted a (λ reply. reply) (accepted P (changed P S r) r))
    step (Some reply) = refl
    step None = kind P (changed P (after P S q) r) (changed P S r) r
