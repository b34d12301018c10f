use Rattle.pw_generate.proofs.Summaries.{same-end, same-summary, summary-script}
use Rattle.pw_generate.proofs.summary_laws.histories_have_one_summary.Goals as goal

pub returns-clause-state : goal.returns-clause-state
returns-clause-state c = λ P asked H G h h_none g g_none. same-end P asked H G h h_none g g_none

pub returns-clause-text : goal.returns-clause-text
returns-clause-text c = λ P asked H G h h_none g g_none. same-summary P asked H G h h_none g g_none

pub returns-clause-script : goal.returns-clause-script
returns-clause-script c = λ P asked H has h none. summary-script P asked H has h none
