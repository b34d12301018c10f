use Rattle.pw_cppc_desk.proofs.Turning.{takes_turn, enters, lets_go}
use Rattle.pw_cppc_desk.proofs.rule_laws.requests_keep_the_rule.Goals as goal

pub returns-clause-takes : goal.returns-clause-takes
returns-clause-takes g c = takes_turn g.R.Registers

pub returns-clause-enters : goal.returns-clause-enters
returns-clause-enters g c = enters g.R.Registers

pub returns-clause-lets_go : goal.returns-clause-lets_go
returns-clause-lets_go g c = lets_go g.R.Registers
