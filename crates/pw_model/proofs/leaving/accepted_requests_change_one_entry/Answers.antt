use Rattle.std.proofs.Common.{refl, arith}
use Rattle.pw_plan.specs.declared.domain.DomainKind.TheVariants as kinds
use Rattle.pw_plan.specs.declared.request.Request.TheVariants.{Idle, Perf, PerfLimit, Throttle, ThrottleLimit, Wake}
use Rattle.pw_plan.specs.Parts.{scale_of}
use Rattle.pw_plan.specs.Places.{cpu_at}
use Rattle.pw_model.specs.States.{capped, idling, running}
use Rattle.pw_model.proofs.Changes.{accepted_leaves, capped_is, perf_asked, perf_limited, throttle_asked, throttle_limited, vote_moved}
use Rattle.pw_model.proofs.leaving.accepted_requests_change_one_entry.Goals as goal

pub returns-clause-idle : goal.returns-clause-idle
returns-clause-idle c = λ P S p s t is has e. let n = is.votes in rw (accepted_leaves P S (Idle p s t) e) (vote_moved S p (idling s t) (omega (arith, n, has)))

pub returns-clause-wake : goal.returns-clause-wake
returns-clause-wake c = λ P S p is has. let n = is.votes in rw (accepted_leaves P S (Wake p) refl) (vote_moved S p running (omega (arith, n, has)))

pub returns-clause-perf : goal.returns-clause-perf
returns-clause-perf c = λ P S p i is has e. let n = is.perf_asks in rw (accepted_leaves P S (Perf p i) e) (perf_asked S p i (omega (arith, n, has)))

pub returns-clause-throttle : goal.returns-clause-throttle
returns-clause-throttle c = λ P S p i is has e. let n = is.throttle_asks in rw (accepted_leaves P S (Throttle p i) e) (throttle_asked S p i (omega (arith, n, has)))

pub returns-clause-perf_limit : goal.returns-clause-perf_limit
returns-clause-perf_limit c = λ P S p n scale is has e some. let size = is.perf_limits in
    rw (accepted_leaves P S (PerfLimit p n) e, ← capped_is (scale_of kinds.Perf (cpu_at P p)) scale n some)
    (perf_limited S p (capped (scale_of kinds.Perf (cpu_at P p)) n) (omega (arith, size, has)))

pub returns-clause-throttle_limit : goal.returns-clause-throttle_limit
returns-clause-throttle_limit c = λ P S p n scale is has e some. let size = is.throttle_limits in
    rw (accepted_leaves P S (ThrottleLimit p n) e, ← capped_is (scale_of kinds.Throttle (cpu_at P p)) scale n some)
    (throttle_limited S p (capped (scale_of kinds.Throttle (cpu_at P p)) n) (omega (arith, size, has)))
