use Rattle.std.proofs.Common.{◌∙◌}
use Rattle.pw_cppc.proofs.Accepting.{taken_back}
use Rattle.pw_cppc.proofs.state.CppcState.operations.Goals as goal

pub returns-then-is_none-clause-same : goal.returns-then-is_none-clause-same
returns-then-is_none-clause-same c =
    (rw (c.accept-reply.ensures.after, c.number_of-old.ensures) at c.put.ensures) ∙ taken_back c.self.inside.numbers c.args.request ∙ c.self.view_is
