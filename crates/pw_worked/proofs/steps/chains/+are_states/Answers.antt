use Rattle.std.proofs.Common.{◌≡◌, ◌<◌, ◌≤◌, length, arith}
use Rattle.acpi_values.specs.Idle.{rows_of}
use Rattle.pw_plan.specs.Places.{container_at}
use Rattle.pw_plan.specs.Tree.{line_from}
use Rattle.pw_core.specs.Chains.{AreStates}
use Rattle.pw_worked.proofs.Lines.{states-more}
use Rattle.pw_worked.proofs.steps.chains.+are_states.Goals as goal

pub returns : goal.returns
returns t c = λ yes.
    let P = c.args.plan.now in
    let n = c.in-Some-next.node in
    let exists : n < length P.containers = c.requires n c.in-Some-next.is in
    let above : AreStates P (line_from P.containers (container_at P n).parent) c.in-Some.above.now = rw c.container-container.ensures at (c.are_states.ensures yes) in
    let fits : c.in-Some.state.now ≤ length (rows_of (container_at P n).idle) = rw (c.states.ensures, c.container-container.ensures) at c.if-state-states.false in
    rw (c.in-Some-next.is, c.in-Some.ensures.cases.0) (states-more P n c.in-Some.state.now c.in-Some.above.now exists (omega (arith, c.if-state-eq0.false)) fits above)
