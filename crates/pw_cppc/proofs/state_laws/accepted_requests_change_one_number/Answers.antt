use Rattle.pw_cppc.proofs.OneNumber.{answers, leaves}
use Rattle.pw_cppc.proofs.state_laws.accepted_requests_change_one_number.Goals as goal

pub returns-clause-numbers : goal.returns-clause-numbers
returns-clause-numbers c = λ P S q fits accepted. leaves P S q fits accepted

pub returns-clause-answer : goal.returns-clause-answer
returns-clause-answer c = λ P S q d accepted lt member. answers P S q d accepted lt member
