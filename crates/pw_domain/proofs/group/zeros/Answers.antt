use Rattle.std.proofs.Common.{sym}
use Rattle.pw_base.proofs.Filled.{filled_more}
use Rattle.pw_domain.proofs.group.zeros.Goals as goal

pub loop-member-preserved : goal.loop-member-preserved
loop-member-preserved c = rw (c.in_ok-push.ensures.items, c.loop-member.invariant) (sym (filled_more 0 c.args.members.now c.loop-member._member-index c.loop-member-test.true))
