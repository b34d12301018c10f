use Rattle.std.proofs.Common.{sym, ◌∙◌, get_or-set_other}
use Rattle.pw_model.specs.States.{running}
use Rattle.pw_core.proofs.Accepted.{idle_leaves}
use Rattle.pw_core.proofs.stepping.step_idle.Goals as goal

pub idle-chain-requires-clause-alone : goal.idle-chain-requires-clause-alone
idle-chain-requires-clause-alone c = λ r other. get_or-set_other c.args.lists.now.votes c.args.cpu r (record { state = c.args.state; tolerance = c.args.tolerance }) running other

pub idle-chain-requires-clause-fits : goal.idle-chain-requires-clause-fits
idle-chain-requires-clause-fits c =
    idle_leaves c.args.plan.now c.args.lists.now c.args.cpu c.args.state c.args.tolerance c.requires.fits c.requires.cpu (sym c.idle_refusal.ensures ∙ c.in_default.is)

pub returns-clause-fits : goal.returns-clause-fits
returns-clause-fits c =
    rw c.set.ensures (idle_leaves c.args.plan.now c.args.lists.now c.args.cpu c.args.state c.args.tolerance c.requires.fits c.requires.cpu (sym c.idle_refusal.ensures ∙ c.in_default.is))
