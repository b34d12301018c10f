use Rattle.pw_machine.proofs.Walks.{tells_answer, tells_left}
use Rattle.pw_machine.proofs.walk_laws.walks_tell_requests.Goals as goal

pub returns-clause-answer : goal.returns-clause-answer
returns-clause-answer c = λ P q held has. tells_answer P q held has

pub returns-clause-left : goal.returns-clause-left
returns-clause-left c = λ P q held has. tells_left P q held has
