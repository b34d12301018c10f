use Rattle.pw_model.specs.States.{vote_of}
use Rattle.pw_model.specs.Domains.{may_enter}
use Rattle.pw_model.proofs.Gathering.{entered_greatest, entered_may}
use Rattle.pw_model.proofs.Greatest.{greatest-le}
use Rattle.pw_model.proofs.laws.c_states_are_greatest.Goals as goal

pub returns-clause-within : goal.returns-clause-within
returns-clause-within c = λ P S p. greatest-le (may_enter P S p) (vote_of S p).state

pub returns-clause-entered : goal.returns-clause-entered
returns-clause-entered c = λ P S p lt. entered_may P S p lt

pub returns-clause-greatest : goal.returns-clause-greatest
returns-clause-greatest c = λ P S p j le h. entered_greatest P S p j le h
