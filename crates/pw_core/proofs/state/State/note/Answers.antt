use Rattle.pw_core.proofs.Leaving.{accepted_fits}
use Rattle.pw_core.proofs.state.State.note.Goals as goal

pub returns-clause-fits : goal.returns-clause-fits
returns-clause-fits c =
    rw c.make.ensures (accepted_fits c.args.plan.now c.self.inside.lists c.args.self.now c.args.request c.change_of-change.result c.self.view_is c.requires.fits c.requires.request
    (rw (← c.self.view_is) at c.requires.accepted) c.change_of-change.ensures)
