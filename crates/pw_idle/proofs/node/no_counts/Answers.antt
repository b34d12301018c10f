use Rattle.std.proofs.Common.{sym}
use Rattle.pw_base.proofs.Filled.{filled_more}
use Rattle.pw_idle.proofs.node.no_counts.Goals as goal

pub loop-row-preserved : goal.loop-row-preserved
loop-row-preserved c = rw (c.in_ok-push.ensures.items, c.loop-row.invariant) (sym (filled_more 0 c.args.rows.now c.loop-row._row-index c.loop-row-test.true))
