use Rattle.std.proofs.Common.{◌≡◌, ◌≤◌, ◌&&◌, length, nat_le}
use Rattle.acpi_values.specs.Idle.{rows_of}
use Rattle.pw_plan.specs.Places.{row_at}
use Rattle.pw_model.specs.Containers.{greatest}
use Rattle.pw_core.proofs.tree.deepest.Given as goal

abbrev pub invariant-loop-state : goal.invariant-loop-state
invariant-loop-state l = record {
  within : l.state ≤ length (rows_of l.table);
  rest : greatest (λ i. (row_at l.table i).enabled && (nat_le i l.allowance.state && nat_le (row_at l.table i).latency l.allowance.tolerance)) l.state
      ≡ greatest (λ i. (row_at l.table i).enabled && (nat_le i l.allowance.state && nat_le (row_at l.table i).latency l.allowance.tolerance)) (length (rows_of l.table));
}

abbrev pub decreases-loop-state : goal.decreases-loop-state
decreases-loop-state l = l.state
