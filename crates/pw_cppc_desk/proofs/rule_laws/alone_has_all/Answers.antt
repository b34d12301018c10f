use Rattle.pw_cppc_desk.proofs.Alone.{alone_whole, closes}
use Rattle.pw_cppc_desk.proofs.rule_laws.alone_has_all.Goals as goal

pub returns-clause-at_home : goal.returns-clause-at_home
returns-clause-at_home g c = alone_whole g.R.Registers

pub returns-clause-closed : goal.returns-clause-closed
returns-clause-closed g c = closes g.R.Registers
