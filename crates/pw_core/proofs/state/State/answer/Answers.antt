use Rattle.std.proofs.Common.{sym, ◌∙◌}
use Rattle.pw_core.proofs.Leaving.{accepted_fits}
use Rattle.pw_core.proofs.state.State.answer.Goals as goal

pub accepted_reply-requires-clause-fits : goal.accepted_reply-requires-clause-fits
accepted_reply-requires-clause-fits c =
    accepted_fits c.args.plan.now c.self.inside.lists c.args.self.now c.args.request c.change_of.result c.self.view_is c.requires.fits c.requires.request (sym c.refusal.ensures
    ∙ c.in-None.is) c.change_of.ensures
