use Rattle.std.proofs.Common.{arith}
use Rattle.pw_model.proofs.Fitting.{perf_few, throttle_few}
use Rattle.pw_core.proofs.changing.change_of.Goals as goal

pub overflow_cast-result-in-Perf : goal.overflow_cast-result-in-Perf
overflow_cast-result-in-Perf c =
    let few = perf_few c.args.plan.now c.args.state.now c.args.request c.in-Perf.cpu c.in-Perf.index c.requires.accepted c.in-Perf.is in
    omega (arith, few)

pub overflow_cast-result-in-Throttle : goal.overflow_cast-result-in-Throttle
overflow_cast-result-in-Throttle c =
    let few = throttle_few c.args.plan.now c.args.state.now c.args.request c.in-Throttle.cpu c.in-Throttle.index c.requires.accepted c.in-Throttle.is in
    omega (arith, few)
