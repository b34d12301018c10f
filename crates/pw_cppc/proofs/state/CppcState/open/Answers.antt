use Rattle.pw_cppc.proofs.Software.{opening_fits}
use Rattle.pw_cppc.proofs.state.CppcState.open.Goals as goal

pub returns-clause-fits : goal.returns-clause-fits
returns-clause-fits c = rw c.in_ok-opened.ensures (opening_fits c.args.plan.now)
