use Rattle.pw_model.proofs.Opening.{opening_fits}
use Rattle.pw_model.proofs.Staying.{after_fits, replay_fits}
use Rattle.pw_model.proofs.history.histories_stay_states.Goals as goal

pub returns-clause-opens : goal.returns-clause-opens
returns-clause-opens c = λ P. opening_fits P

pub returns-clause-steps : goal.returns-clause-steps
returns-clause-steps c = λ P S q s has. after_fits P S q s has

pub returns-clause-replays : goal.returns-clause-replays
returns-clause-replays c = λ P H a. replay_fits P H a
