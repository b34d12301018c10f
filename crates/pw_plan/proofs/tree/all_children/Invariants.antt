use Rattle.std.proofs.Common.{◌≡◌, ◌++◌, ◌-◌, map, length}
use Rattle.std.specs.List.{range_with_len}
use Rattle.pw_plan.specs.Tree.{all_children, children_of}
use Rattle.pw_plan.proofs.tree.all_children.Given as goal

abbrev pub invariant-loop-node : goal.invariant-loop-node
invariant-loop-node l =
    l.lists.items ++ map (children_of l.containers l.cpus) (range_with_len l.node (length l.containers - l.node)) ≡ all_children l.containers l.cpus
