use Rattle.pw_history.proofs.Completions.{completed-run, first-starts}
use Rattle.pw_cppc_drive.specs.HistoryText.{performance_words}
use Rattle.pw_cppc_drive.proofs.Told.{performance_fits}
use Rattle.pw_cppc_drive.proofs.text_laws.cppc_beginnings_complete.Goals as goal

pub returns-clause-completed : goal.returns-clause-completed
returns-clause-completed c = λ P L H has none start. completed-run (performance_fits P) L H has none start

pub returns-clause-begins : goal.returns-clause-begins
returns-clause-begins c = λ P L H G run. first-starts performance_words P L H G run
