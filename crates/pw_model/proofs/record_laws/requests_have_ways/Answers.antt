use Rattle.pw_model.proofs.Ways.{has_way, numbers_tell, record_below, record_numbers}
use Rattle.pw_model.proofs.record_laws.requests_have_ways.Goals as goal

pub returns-clause-way : goal.returns-clause-way
returns-clause-way c = λ P q has. has_way P q has

pub returns-clause-numbers : goal.returns-clause-numbers
returns-clause-numbers c = λ P r s a b e. numbers_tell P r s a b e

pub returns-clause-numbered : goal.returns-clause-numbered
returns-clause-numbered c = λ P t lt. record_numbers P t lt

pub returns-clause-count : goal.returns-clause-count
returns-clause-count c = λ P r a. record_below P r a
