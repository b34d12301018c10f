use Rattle.pw_script.proofs.Limiting.{leaves, perf_follows, throttle_follows}
use Rattle.pw_script.proofs.asking.note.Goals as goal

pub returns-in-PerfLimit-clause-limits : goal.returns-in-PerfLimit-clause-limits
returns-in-PerfLimit-clause-limits c = λ T same. rw (c.apply.ensures.after, c.in-PerfLimit.is)
    (perf_follows c.args.plan.now c.args.state.now T same c.in-PerfLimit.cpu c.in-PerfLimit.n)

pub returns-in-ThrottleLimit-clause-limits : goal.returns-in-ThrottleLimit-clause-limits
returns-in-ThrottleLimit-clause-limits c = λ T same. rw (c.apply-in-ThrottleLimit.ensures.after, c.in-ThrottleLimit.is)
    (throttle_follows c.args.plan.now c.args.state.now T same c.in-ThrottleLimit.cpu c.in-ThrottleLimit.n)

pub returns-in_default-clause-limits : goal.returns-in_default-clause-limits
returns-in_default-clause-limits c = leaves c.args.plan.now c.args.request c.args.state.now c.in_default.not-PerfLimit c.in_default.not-ThrottleLimit
