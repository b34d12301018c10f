use Rattle.pw_model.proofs.Loops.{climb_step}
use Rattle.pw_model.proofs.Calls.{calls_serve, opens_right}
use Rattle.pw_model.proofs.record_laws.records_open_and_serve.Goals as goal

pub returns-clause-opens : goal.returns-clause-opens
returns-clause-opens c = λ P. opens_right P

pub returns-clause-serve : goal.returns-clause-serve
returns-clause-serve c = λ P. calls_serve P

pub returns-clause-climb : goal.returns-clause-climb
returns-clause-climb c = λ P F d v n lt. climb_step P F d v n lt
