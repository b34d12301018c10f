use Rattle.std.proofs.Common.{ap, arith, length, refl}
use Rattle.pw_walker.proofs.Scaled.{counts_few}
use Rattle.pw_walker.proofs.turns.next_turn.Goals as goal

pub overflow_add-result-in-Grouped : goal.overflow_add-result-in-Grouped
overflow_add-result-in-Grouped c =
    let P = c.args.plan.now in
    let few = counts_few P (length c.as_slice-containers.result.now) c.scaled_count.result (length P.groups) (ap length c.as_slice-containers.ensures) c.scaled_count.ensures refl in
    omega (arith, few)

pub overflow_cast-result-in-Grouped : goal.overflow_cast-result-in-Grouped
overflow_cast-result-in-Grouped c =
    let P = c.args.plan.now in
    let few = counts_few P (length c.as_slice-containers.result.now) c.scaled_count.result (length P.groups) (ap length c.as_slice-containers.ensures) c.scaled_count.ensures refl in
    omega (arith, few)

pub overflow_add-result-in-Grouped-2 : goal.overflow_add-result-in-Grouped-2
overflow_add-result-in-Grouped-2 c =
    let P = c.args.plan.now in
    let few = counts_few P (length c.as_slice-containers.result.now) c.scaled_count.result (length P.groups) (ap length c.as_slice-containers.ensures) c.scaled_count.ensures refl in
    let there = rw c.in-Grouped.is at c.requires.2 in
    omega (arith, few, there.stands.1)
