use Rattle.std.proofs.Common.{◌≡◌, ◌-◌, map, length}
use Rattle.std.specs.List.{range_with_len}
use Rattle.pw_plan.specs.Limits.{depths, first_above}
use Rattle.pw_plan.specs.Tree.{depth_of}
use Rattle.pw_plan.proofs.limits.deep.Given as goal

abbrev pub invariant-loop-node : goal.invariant-loop-node
invariant-loop-node l = first_above 8 (map (depth_of l.containers) (range_with_len l.node (length l.containers - l.node))) ≡ first_above 8 (depths l.containers)
