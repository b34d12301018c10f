use Rattle.std.proofs.Common.{◌≡◌, ◌≤◌, length}
use Rattle.acpi_values.specs.Idle.{rows_of}
use Rattle.pw_plan.specs.Places.{container_at}
use Rattle.pw_model.specs.Containers.{greatest, may_idle}
use Rattle.pw_idle.proofs.node.deepest.Given as goal

abbrev pub invariant-loop-state : goal.invariant-loop-state
invariant-loop-state l = record {
  within : l.state ≤ length (rows_of (container_at l.plan l.node).idle);
  rest : greatest (may_idle l.plan l.node l.votes) l.state ≡ greatest (may_idle l.plan l.node l.votes) (length (rows_of (container_at l.plan l.node).idle));
}

abbrev pub decreases-loop-state : goal.decreases-loop-state
decreases-loop-state l = l.state
