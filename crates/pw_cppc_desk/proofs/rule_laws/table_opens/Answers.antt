use Rattle.pw_cppc_desk.proofs.Opening.{begins, claims, opens_desk}
use Rattle.pw_cppc_desk.proofs.rule_laws.table_opens.Goals as goal

pub returns-clause-begins : goal.returns-clause-begins
returns-clause-begins g c = begins g.R.Registers

pub returns-clause-claims : goal.returns-clause-claims
returns-clause-claims g c = claims g.R.Registers

pub returns-clause-opens : goal.returns-clause-opens
returns-clause-opens g c = opens_desk g.R.Registers
