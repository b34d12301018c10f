use Rattle.pw_plan.proofs.Ranges.{pushed_map}
use Rattle.pw_cppc.specs.inner.Stood.{stood_by}
use Rattle.pw_cppc.proofs.following.stood_by_all.Goals as goal

pub loop-cpu-preserved : goal.loop-cpu-preserved
loop-cpu-preserved c =
    rw c.in_ok-push.ensures.items (pushed_map c.loop-cpu.stood.items _ c.loop-cpu.cpu _ c.loop-cpu-test.true (stood_by c.args.plan.now c.args.numbers.now)
    c.stood_by.result c.stood_by.ensures c.loop-cpu.invariant)
