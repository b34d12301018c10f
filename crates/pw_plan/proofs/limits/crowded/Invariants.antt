use Rattle.std.proofs.Common.{◌≡◌, ◌-◌, map, length}
use Rattle.std.specs.List.{range_with_len}
use Rattle.pw_plan.specs.Limits.{child_counts, first_above}
use Rattle.pw_plan.specs.Tree.{children_of}
use Rattle.pw_plan.proofs.limits.crowded.Given as goal

abbrev pub invariant-loop-node : goal.invariant-loop-node
invariant-loop-node l =
    first_above 255 (map (λ n. length (children_of l.containers l.cpus n)) (range_with_len l.node (length l.containers - l.node)))
    ≡ first_above 255 (child_counts l.containers l.cpus)
