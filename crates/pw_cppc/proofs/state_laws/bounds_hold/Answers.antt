use Rattle.pw_cppc.proofs.NumberBounds.{opening_ops-length, ops_of-le}
use Rattle.pw_cppc.proofs.state_laws.bounds_hold.Goals as goal

pub returns-clause-request : goal.returns-clause-request
returns-clause-request c = λ P S q has. ops_of-le P S q

pub returns-clause-opening : goal.returns-clause-opening
returns-clause-opening c = λ P. opening_ops-length P
