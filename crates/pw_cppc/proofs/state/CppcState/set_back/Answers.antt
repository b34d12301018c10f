use Rattle.std.proofs.Common.{◌∙◌}
use Rattle.pw_cppc.proofs.Accepting.{after_taken_back}
use Rattle.pw_cppc.proofs.state.CppcState.set_back.Goals as goal

pub returns : goal.returns
returns c S is was = (rw (c.self.view_is ∙ is, was) at c.put.ensures) ∙ after_taken_back c.args.plan.now S c.args.request
