use Rattle.pw_idle.proofs.Nodes.{in_state, vote_fits, vote_proper}
use Rattle.pw_idle.proofs.laws.node_records_hand_up.Goals as goal

pub returns-clause-fits : goal.returns-clause-fits
returns-clause-fits c = λ P n vs. vote_fits P n vs

pub returns-clause-proper : goal.returns-clause-proper
returns-clause-proper c = λ P n vs. vote_proper P n vs

pub returns-clause-holds : goal.returns-clause-holds
returns-clause-holds c = λ P S r is e. in_state P S r is e
