use Rattle.pw_history.proofs.Completions.{completed-run, first-starts}
use Rattle.pw_script.specs.HistoryText.{power_words}
use Rattle.pw_script.proofs.Told.{power_fits}
use Rattle.pw_script.proofs.text_laws.beginnings_complete.Goals as goal

pub returns-clause-completed : goal.returns-clause-completed
returns-clause-completed c = λ P L H has none start. completed-run (power_fits P) L H has none start

pub returns-clause-begins : goal.returns-clause-begins
returns-clause-begins c = λ P L H G run. first-starts power_words P L H G run
