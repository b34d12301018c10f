use Rattle.pw_model.proofs.Idleness.{state_allowed, state_greatest, tolerance_borne, tolerance_least, tolerance_runs}
use Rattle.pw_model.proofs.laws.container_states_are_greatest.Goals as goal

pub returns-clause-allowed : goal.returns-clause-allowed
returns-clause-allowed c = λ P S n lt. state_allowed P S n lt

pub returns-clause-greatest : goal.returns-clause-greatest
returns-clause-greatest c = λ P S n i h. state_greatest P S n i h

pub returns-clause-bears : goal.returns-clause-bears
returns-clause-bears c = λ P S n lt. tolerance_borne P S n lt

pub returns-clause-least : goal.returns-clause-least
returns-clause-least c = λ P S n t le a. tolerance_least P S n t le a

pub returns-clause-runs : goal.returns-clause-runs
returns-clause-runs c = λ P S n z. tolerance_runs P S n z
