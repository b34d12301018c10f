use Rattle.std.proofs.Common.{◌≡◌, ◌≤◌, length}
use Rattle.acpi_values.specs.Idle.{rows_of}
use Rattle.pw_plan.specs.Limits.{in_32_bits}
use Rattle.pw_plan.specs.Places.{row_at}
use Rattle.pw_model.specs.Containers.{greatest}
use Rattle.pw_governor.specs.Choices.{is_lawful, choice}
use Rattle.pw_governor.proofs.choices.deepest.Given as goal

abbrev pub invariant-loop-state : goal.invariant-loop-state
invariant-loop-state l = record {
  within : l.state ≤ in_32_bits (length (rows_of l.table));
  so_far : greatest (λ i. is_lawful l.tolerance l.residency (row_at l.table i)) l.state ≡ choice l.table l.tolerance l.residency;
}

abbrev pub decreases-loop-state : goal.decreases-loop-state
decreases-loop-state l = l.state
