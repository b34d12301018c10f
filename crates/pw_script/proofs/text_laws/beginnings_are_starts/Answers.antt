use Rattle.pw_history.proofs.Beginnings.{begins-start, begins-whole}
use Rattle.pw_history.proofs.Ends.{begins-shorter, whole-run}
use Rattle.pw_script.specs.HistoryText.{power_words}
use Rattle.pw_script.proofs.Told.{power_fits, power_laws}
use Rattle.pw_script.proofs.text_laws.beginnings_are_starts.Goals as goal

pub returns-clause-starts : goal.returns-clause-starts
returns-clause-starts c = λ P L lines tell b. begins-start (power_laws P tell).words L lines b

pub returns-clause-begins : goal.returns-clause-begins
returns-clause-begins c = λ P L lines tell are b. begins-whole (power_laws P tell).words (power_fits P) L are.has lines b

pub returns-clause-whole : goal.returns-clause-whole
returns-clause-whole c = λ P L H tell are start w. whole-run (power_laws P tell) L are H start w

pub returns-clause-fewer : goal.returns-clause-fewer
returns-clause-fewer c = λ P L lines k b. begins-shorter power_words P L lines k b
