use Rattle.std.proofs.Common.{length}
use Rattle.pw_plan.specs.Tree.{all_children, children_of}
use Rattle.pw_plan.proofs.Ranges.{pushed_map}
use Rattle.pw_plan.proofs.tree.all_children.Goals as goal

pub loop-node-preserved : goal.loop-node-preserved
loop-node-preserved c =
    rw c.in_ok-push.ensures.items (pushed_map c.loop-node.lists.items (all_children c.args.containers.now c.args.cpus.now) c.loop-node.node (length c.args.containers.now) c.loop-node-test.true
    (children_of c.args.containers.now c.args.cpus.now) c.in_ok-children_of.field-0 c.in_ok-children_of.ensures c.loop-node.invariant)
