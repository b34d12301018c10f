use Rattle.pw_cppc.proofs.Software.{opening_fits}
use Rattle.pw_cppc.proofs.Staying.{after_fits, replay_fits}
use Rattle.pw_cppc.proofs.history.histories_stay_numbers.Goals as goal

pub returns-clause-opens : goal.returns-clause-opens
returns-clause-opens c = λ P. opening_fits P

pub returns-clause-steps : goal.returns-clause-steps
returns-clause-steps c = λ P S q fits. after_fits P S q fits

pub returns-clause-replays : goal.returns-clause-replays
returns-clause-replays c = λ P H. replay_fits P H
