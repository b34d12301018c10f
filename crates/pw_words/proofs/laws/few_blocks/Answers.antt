use Rattle.pw_words.proofs.Asking.{few_asked, few_audited, few_driven, few_performed}
use Rattle.pw_words.proofs.laws.few_blocks.Goals as goal

pub returns-clause-task : goal.returns-clause-task
returns-clause-task c = few_asked

pub returns-clause-drive : goal.returns-clause-drive
returns-clause-drive c = few_driven

pub returns-clause-audit : goal.returns-clause-audit
returns-clause-audit c = few_audited

pub returns-clause-cppc : goal.returns-clause-cppc
returns-clause-cppc c = few_performed
