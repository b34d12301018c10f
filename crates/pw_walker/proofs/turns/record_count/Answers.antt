use Rattle.std.proofs.Common.{ap, arith, length}
use Rattle.pw_walker.proofs.Scaled.{counts_few}
use Rattle.pw_walker.proofs.turns.record_count.Goals as goal

pub overflow_add-result : goal.overflow_add-result
overflow_add-result c =
    let few = counts_few c.args.plan.now (length c.as_slice-containers.result.now) c.scaled_count.result (length c.as_slice-groups.result.now)
    (ap length c.as_slice-containers.ensures) c.scaled_count.ensures (ap length c.as_slice-groups.ensures) in
    omega (arith, few)

pub overflow_add-result-2 : goal.overflow_add-result-2
overflow_add-result-2 c =
    let few = counts_few c.args.plan.now (length c.as_slice-containers.result.now) c.scaled_count.result (length c.as_slice-groups.result.now)
    (ap length c.as_slice-containers.ensures) c.scaled_count.ensures (ap length c.as_slice-groups.ensures) in
    omega (arith, few)

pub overflow_cast-result : goal.overflow_cast-result
overflow_cast-result c =
    let few = counts_few c.args.plan.now (length c.as_slice-containers.result.now) c.scaled_count.result (length c.as_slice-groups.result.now)
    (ap length c.as_slice-containers.ensures) c.scaled_count.ensures (ap length c.as_slice-groups.ensures) in
    omega (arith, few)
