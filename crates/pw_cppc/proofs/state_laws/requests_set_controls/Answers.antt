use Rattle.pw_cppc.proofs.Asked.{each_is_set, set_is_there}
use Rattle.pw_cppc.proofs.state_laws.requests_set_controls.Goals as goal

pub returns-clause-only : goal.returns-clause-only
returns-clause-only c = λ P S q fits. each_is_set P S q fits

pub returns-clause-all : goal.returns-clause-all
returns-clause-all c = λ P S q o fits set. set_is_there P S q o fits set
