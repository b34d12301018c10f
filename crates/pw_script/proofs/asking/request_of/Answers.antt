use Rattle.std.proofs.Common.{refl}
use Rattle.pw_plan.specs.declared.request.Request.TheVariants.{PerfLimit, ThrottleLimit}
use Rattle.pw_notice.specs.Limits.{AnsweredBy}
use Rattle.pw_script.proofs.Noticing.{noticed}
use Rattle.pw_script.proofs.asking.request_of.Goals as goal

pub returns-in-Perf-clause-asked : goal.returns-in-Perf-clause-asked
returns-in-Perf-clause-asked g c = λ before made.
    let answers = AnsweredBy (goal.P-post g c.args.handlers.now.0) (goal.T-post g c.args.handlers.now.1) in
    let p = c.in-Notice.cpu in
    let n = c.limit_of-n.result in
    let asked = noticed c.args.plan.now answers c.args.state.now before p c.in-Notice.kind c.in-Notice.value n (PerfLimit p n) made c.limit_of-n.ensures (rw c.in-Perf.is refl) in
    rw c.in-Notice.is asked

pub returns-in-Throttle-clause-asked : goal.returns-in-Throttle-clause-asked
returns-in-Throttle-clause-asked g c = λ before made.
    let answers = AnsweredBy (goal.P-post g c.args.handlers.now.0) (goal.T-post g c.args.handlers.now.1) in
    let p = c.in-Notice.cpu in
    let n = c.limit_of-n.result in
    let asked = noticed c.args.plan.now answers c.args.state.now before p c.in-Notice.kind c.in-Notice.value n (ThrottleLimit p n) made c.limit_of-n.ensures (rw c.in-Throttle.is refl) in
    rw c.in-Notice.is asked
