use Rattle.pw_machine.proofs.Walks.{tells_end, tells_next, tells_record, walks_on}
use Rattle.pw_machine.proofs.walk_laws.walks_tell_turns.Goals as goal

pub returns-clause-next : goal.returns-clause-next
returns-clause-next c = λ P q held has. tells_next P q held has

pub returns-clause-record : goal.returns-clause-record
returns-clause-record c = λ P q held has. tells_record P q held has

pub returns-clause-end : goal.returns-clause-end
returns-clause-end c = λ P q held has. tells_end P q held has

pub returns-clause-on : goal.returns-clause-on
returns-clause-on c = λ P q held. walks_on P q held
