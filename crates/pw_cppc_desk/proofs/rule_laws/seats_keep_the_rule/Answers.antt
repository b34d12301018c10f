use Rattle.pw_cppc_desk.proofs.Numbers.{draws, reads_made, splits, joins}
use Rattle.pw_cppc_desk.proofs.rule_laws.seats_keep_the_rule.Goals as goal

pub returns-clause-draws : goal.returns-clause-draws
returns-clause-draws g c = draws g.R.Registers

pub returns-clause-reads : goal.returns-clause-reads
returns-clause-reads g c = reads_made g.R.Registers

pub returns-clause-splits : goal.returns-clause-splits
returns-clause-splits g c = splits g.R.Registers

pub returns-clause-joins : goal.returns-clause-joins
returns-clause-joins g c = joins g.R.Registers
