-- What a request comes to, in words, is what the definitions of its refusal, of the state after it, of its reply and of its operations
-- say.
use Rattle.std.proofs.Common.{◌≡◌, ◌∙◌, ℕ, [], Option, Some, None, refl, sym, ap, subst, arith}
use Rattle.pw_plan.specs.declared.domain.DomainKind.{DomainKind}
use Rattle.pw_plan.specs.declared.domain.DomainKind.TheVariants as kinds
use Rattle.pw_plan.specs.declared.plan.Plan.{Plan}
use Rattle.pw_plan.specs.declared.request.Request.{Request}
use Rattle.pw_plan.specs.declared.request.Request.TheVariants.{Idle, Wake, Perf, Throttle, PerfLimit, ThrottleLimit}
use Rattle.pw_plan.specs.Parts.{scale_of}
use Rattle.pw_plan.specs.Places.{cpu_at}
use Rattle.pw_plan.specs.Requests.{Has}
use Rattle.pw_model.specs.declared.reply.Reply.{Reply}
use Rattle.pw_model.specs.declared.reply.Reply.TheVariants.{AboveLimit, Disabled, Entered, NoState, NoTable, Running, Stands, TooSlow, Unfit}
use Rattle.pw_model.specs.declared.state.State.{State}
use Rattle.pw_model.specs.States.{IsState, capped, idling, running}
use Rattle.pw_model.specs.Refusals.{◌or_else◌, above_limit, ask_refusal, idle_refusal, limit_refusal, refusal}
use Rattle.pw_model.specs.Answers.{accepted, after, answer, changed, if_accepted}
use Rattle.pw_model.specs.Operations.{accepted_ops, ops_of}
use Rattle.pw_model.proofs.Accepting.{ask_from, idle_from, limit_from}
use Rattle.pw_model.proofs.Changes.{accepted_leaves, perf_asked, perf_limited, throttle_asked, throttle_limited, vote_moved}
use Rattle.pw_model.proofs.Drawn.{along_by, along_from}
use Rattle.pw_model.proofs.Fitting.{none_first}
use Rattle.pw_model.proofs.Operating.{idle_enters, sets}
use Rattle.pw_model.proofs.Reasons.{AskReason, LimitReason, Reason, above_said, absent_said, alone, ask_reason, disabled_said, domain_said, idle_reason, in_front, limit_reason, no_scale_said}
use Rattle.pw_model.proofs.Reasons.{no_state_said, no_such_said, slow_said, unfit_domain_said, unfit_said}
use Rattle.pw_cli.specs.Served.{IsAccepted, IsAskRefused, IsIdleRefused, IsLimitRefused, IsRefusedFor, IsServed}
use Rattle.pw_cli.specs.Served.{IsIdleRefused as idle}
use Rattle.pw_cli.specs.Served.{IsLimitRefused as limit}
use Rattle.pw_cli.specs.Served.{IsAskRefused as ask}
use Rattle.pw_cli.specs.Served.{IsServed as came}

-- # Why a request is refused

module _ (P : Plan) (p s t : ℕ) where
  idle_why : (r : Reply) → Reason P p s t r → IsIdleRefused P p s t r
  idle_why NoTable h = idle.no_table h
  idle_why (Unfit number why) h = idle.unfit h
  idle_why (NoState n) h = idle.no_state h
  idle_why Disabled h = idle.disabled h
  idle_why (TooSlow l) h = idle.too_slow h
  idle_why (Entered c) h = absurd h
  idle_why Running h = absurd h
  idle_why (Stands i) h = absurd h
  idle_why (AboveLimit l) h = absurd h

  idle_said : {r : Reply} → IsIdleRefused P p s t r → idle_refusal P p s t ≡ Some r
  idle_said (idle.no_table e) = absent_said P p s t e
  idle_said (idle.unfit {number = number} {why = why} h) = unfit_said P p s t number why h
  idle_said (idle.no_state {count = n} h) = no_state_said P p s t n h
  idle_said (idle.disabled h) = disabled_said P p s t h
  idle_said (idle.too_slow {latency = l} h) = slow_said P p s t l h

module _ (P : Plan) (kind : DomainKind) (p : ℕ) where
  limit_why : (r : Reply) → LimitReason P kind p r → IsLimitRefused P kind p r
  limit_why NoTable h = limit.no_table h
  limit_why (Unfit d why) h = limit.unfit h
  limit_why (NoState n) h = absurd h
  limit_why Disabled h = absurd h
  limit_why (TooSlow l) h = absurd h
  limit_why (Entered c) h = absurd h
  limit_why Running h = absurd h
  limit_why (Stands i) h = absurd h
  limit_why (AboveLimit l) h = absurd h

  limit_said : {r : Reply} → IsLimitRefused P kind p r → limit_refusal P kind p ≡ Some r
  limit_said (limit.no_table e) = no_scale_said P kind p e
  limit_said (limit.unfit {domain = d} {why = why} h) = unfit_domain_said P kind p d why h

  module _ (S : State) (i : ℕ) where
    ask_why : (r : Reply) → AskReason P kind p S i r → IsAskRefused P S kind p i r
    ask_why NoTable h = ask.as_limit (limit.no_table h)
    ask_why (Unfit d why) h = ask.as_limit (limit.unfit h)
    ask_why (NoState n) h = ask.no_state h
    ask_why (AboveLimit l) h = ask.above_limit h
    ask_why Disabled h = absurd h
    ask_why (TooSlow l) h = absurd h
    ask_why (Entered c) h = absurd h
    ask_why Running h = absurd h
    ask_why (Stands j) h = absurd h

    ask_said : {r : Reply} → IsAskRefused P S kind p i r → (ask_refusal P kind p i or_else above_limit S kind p i) ≡ Some r
    ask_said (ask.as_limit {reply = r} h) = domain_said P kind p S i r (limit_said h)
    ask_said (ask.no_state {count = n} h) = no_such_said P kind p S i n h
    ask_said (ask.above_limit {limit = l} h) = above_said P kind p S i l h

-- a request that is refused is refused for this reason
pub why_refused : (P : Plan) (S : State) (q : Request) (r : Reply) → refusal P S q ≡ Some r → IsRefusedFor P S q r
why_refused P S (Idle p s t) r e = idle_why P p s t r (idle_reason P p s t r (alone (idle_refusal P p s t) r e))
why_refused P S (Wake p) r e = absurd (cc)
why_refused P S (Perf p i) r e = ask_why P kinds.Perf p S i r (ask_reason P kinds.Perf p S i r e)
why_refused P S (Throttle p i) r e = ask_why P kinds.Throttle p S i r (ask_reason P kinds.Throttle p S i r e)
why_refused P S (PerfLimit p n) r e = limit_why P kinds.Perf p r (limit_reason P kinds.Perf p r (alone (limit_refusal P kinds.Perf p) r e))
why_refused P S (ThrottleLimit p n) r e = limit_why P kinds.Throttle p r (limit_reason P kinds.Throttle p r (alone (limit_refusal P kinds.Throttle p) r e))

-- and where a reason stands it is
pub refused_so : (P : Plan) (S : State) (q : Request) (r : Reply) → IsRefusedFor P S q r → refusal P S q ≡ Some r
refused_so P S (Idle p s t) r h = in_front (idle_refusal P p s t) r (idle_said P p s t h)
refused_so P S (Wake p) r h = absurd h
refused_so P S (Perf p i) r h = ask_said P kinds.Perf p S i h
refused_so P S (Throttle p i) r h = ask_said P kinds.Throttle p S i h
refused_so P S (PerfLimit p n) r h = in_front (limit_refusal P kinds.Perf p) r (limit_said P kinds.Perf p h)
refused_so P S (ThrottleLimit p n) r h = in_front (limit_refusal P kinds.Throttle p) r (limit_said P kinds.Throttle p h)

-- # What comes of one that is accepted

-- it is answered what stands behind it
answered : (P : Plan) (S : State) (q : Request) → refusal P S q ≡ None → answer P S q ≡ accepted P (after P S q) q
unfolding answer
answered P S q none =
    ap (λ x. if_accepted x (λ reply. reply) (accepted P (changed P S q) q)) none ∙ ap (λ T. accepted P T q) (sym (accepted_leaves P S q none))

pub what_comes : (P : Plan) (S : State) (q : Request) → IsState P S → Has P q → refusal P S q ≡ None
    → IsAccepted P S (after P S q) q (answer P S q) (ops_of P S q)
unfolding accepted accepted_ops ops_of
what_comes P S (Idle p s t) is has none =
    let n = is.votes in
    record {
      may = idle_from P p s t (none_first (idle_refusal P p s t) None none);
      votes = rw (accepted_leaves P S (Idle p s t) none) (vote_moved S p (idling s t) (omega (arith, n, has)));
      answered = answered P S (Idle p s t) none;
      enters = idle_enters P S p s t none;
      others = λ q other x. (λ h. along_from P S p s t q other x h, λ h. along_by P S p s t q other x h.0 h.1);
    }
what_comes P S (Wake p) is has none =
    let n = is.votes in
    record {
      votes = rw (accepted_leaves P S (Wake p) none) (vote_moved S p running (omega (arith, n, has)));
      answered = answered P S (Wake p) none;
      silent = refl;
    }
what_comes P S (Perf p i) is has none =
    let n = is.perf_asks in
    record {
      may = ask_from P kinds.Perf p S i none;
      asks = rw (accepted_leaves P S (Perf p i) none) (perf_asked S p i (omega (arith, n, has)));
      answered = answered P S (Perf p i) none;
      sets = sets P S kinds.Perf p (Perf p i) (λ T. refl);
    }
what_comes P S (Throttle p i) is has none =
    let n = is.throttle_asks in
    record {
      may = ask_from P kinds.Throttle p S i none;
      asks = rw (accepted_leaves P S (Throttle p i) none) (throttle_asked S p i (omega (arith, n, has)));
      answered = answered P S (Throttle p i) none;
      sets = sets P S kinds.Throttle p (Throttle p i) (λ T. refl);
    }
what_comes P S (PerfLimit p m) is has none =
    let n = is.perf_limits in
    record {
      may = limit_from P kinds.Perf p (none_first (limit_refusal P kinds.Perf p) None none);
      limits = rw (accepted_leaves P S (PerfLimit p m) none) (perf_limited S p (capped (scale_of kinds.Perf (cpu_at P p)) m) (omega (arith, n, has)));
      answered = answered P S (PerfLimit p m) none;
      sets = sets P S kinds.Perf p (PerfLimit p m) (λ T. refl);
    }
what_comes P S (ThrottleLimit p m) is has none =
    let n = is.throttle_limits in
    record {
      may = limit_from P kinds.Throttle p (none_first (limit_refusal P kinds.Throttle p) None none);
      limits = rw (accepted_leaves P S (ThrottleLimit p m) none) (throttle_limited S p (capped (scale_of kinds.Throttle (cpu_at P p)) m) (omega (arith, n, has)));
      answered = answered P S (ThrottleLimit p m) none;
      sets = sets P S kinds.Throttle p (ThrottleLimit p m) (λ T. refl);
    }

-- # One request

module _ (P : Plan) (S : State) (q : Request) (r : Reply) (e : refusal P S q ≡ Some r) where
  pub why_said : answer P S q ≡ r
  unfolding answer
  why_said = ap (λ x. if_accepted x (λ reply. reply) (accepted P (changed P S q) q)) e

  stays : after P S q ≡ S
  unfolding after
  stays = ap (λ x. if_accepted x (λ reply. S) (changed P S q)) e

  silent : ops_of P S q ≡ []
  unfolding ops_of
  silent = ap (λ x. if_accepted x (λ reply. []) (accepted_ops P S (changed P S q) q)) e

pub served : (P : Plan) (S : State) (q : Request) → IsState P S → Has P q → IsServed P S (after P S q) q (answer P S q) (ops_of P S q)
served P S q is has = step (refusal P S q) refl
  where
    step : (x : Option Reply) → refusal P S q ≡ x → IsServed P S (after P S q) q (answer P S q) (ops_of P S q)
    step None e = came.accepted (what_comes P S q is has e)
    step (Some r) e = came.refused (subst (IsRefusedFor P S q) (sym (why_said P S q r e)) (why_refused P S q r e)) (stays P S q r e) (silent P S q r e)
