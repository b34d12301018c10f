use Rattle.std.proofs.Common.{sym}
use Rattle.pw_model.specs.States.{running}
use Rattle.pw_base.proofs.Filled.{filled_more}
use Rattle.pw_idle.proofs.node.all_running.Goals as goal

pub loop-child-preserved : goal.loop-child-preserved
loop-child-preserved c = rw (c.in_ok-push.ensures.items, c.loop-child.invariant, c.running.ensures) (sym (filled_more running c.args.children.now c.loop-child._child-index c.loop-child-test.true))
