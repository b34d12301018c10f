use Rattle.pw_cppc_drive.specs.HistoryText.{performance_words}
use Rattle.pw_audit.proofs.Histories.{sorts}
use Rattle.pw_audit.proofs.laws.cppc_traces_sort_to_histories.Goals as goal

pub returns : goal.returns
returns c = λ P asked trace w. sorts performance_words P asked trace w
