use Rattle.std.proofs.Common.{◌∙◌}
use Rattle.pw_audit.proofs.Outcomes.{no_count, no_reply}
use Rattle.pw_audit.proofs.outcome.read_outcome.Goals as goal

pub returns-in-None-2-clause-read : goal.returns-in-None-2-clause-read
returns-in-None-2-clause-read g c =
    let h = rw c.in-None-2.is at c.in_ok-read_reply-in-None.ensures in
    no_reply g.T.Audited.words c.args.plan.now c.args.state.now c.args.request c.args.left.now c.in-None.ensures (rw c.step-reply.ensures.reply at h)

pub returns-in-None-3-clause-read : goal.returns-in-None-3-clause-read
returns-in-None-3-clause-read g c =
    let list = c.list.ensures ∙ c.operations.ensures.list in
    let h = rw c.in-None-3.is at c.in_ok-read_count-in-Some.ensures in
    no_count g.T.Audited.words c.args.plan.now c.args.state.now c.args.request c.args.left.now c.requires.laws.replies c.in-Some.behind.now c.in-Some.ensures (rw list at h)
