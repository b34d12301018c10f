use Rattle.pw_generate.proofs.Lines.{load_asked, load_numbers}
use Rattle.pw_generate.proofs.laws.loads_can_be_asked.Goals as goal

pub returns-clause-numbers : goal.returns-clause-numbers
returns-clause-numbers c = load_numbers

pub returns-clause-asked : goal.returns-clause-asked
returns-clause-asked c = load_asked
