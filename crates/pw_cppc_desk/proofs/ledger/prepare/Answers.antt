use Rattle.pw_cppc_desk.proofs.Ledgers.{opening_replayed}
use Rattle.pw_cppc_desk.proofs.ledger.prepare.Goals as goal

pub returns-clause-numbers : goal.returns-clause-numbers
returns-clause-numbers c = opening_replayed c.args.plan.now c.in_ok-state.state c.in_ok-state.ensures.opening
