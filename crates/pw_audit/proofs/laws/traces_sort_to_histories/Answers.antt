use Rattle.pw_script.specs.HistoryText.{power_words}
use Rattle.pw_audit.proofs.Histories.{sorts}
use Rattle.pw_audit.proofs.laws.traces_sort_to_histories.Goals as goal

pub returns : goal.returns
returns c = λ P asked trace w. sorts power_words P asked trace w
