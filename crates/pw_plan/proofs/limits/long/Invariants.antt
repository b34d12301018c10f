use Rattle.std.proofs.Common.{◌≡◌, ◌++◌, map, drop, length}
use Rattle.std.specs.List.{flat_map}
use Rattle.acpi_values.specs.Idle.{rows_of}
use Rattle.pw_plan.specs.declared.parts.ContainerParts.{ContainerParts}
use Rattle.pw_plan.specs.Limits.{first_above, state_counts, table_counts}
use Rattle.pw_plan.proofs.limits.long.Given as goal

abbrev pub invariant-loop-container : goal.invariant-loop-container
invariant-loop-container l =
    first_above 255 (map (λ (c : ContainerParts). length (rows_of c.idle)) (drop l.container-index l.containers) ++ flat_map state_counts l.cpus)
    ≡ first_above 255 (table_counts l.containers l.cpus)

abbrev pub invariant-loop-cpu : goal.invariant-loop-cpu
invariant-loop-cpu l = first_above 255 (flat_map state_counts (drop l.cpu-index l.cpus)) ≡ first_above 255 (table_counts l.containers l.cpus)
