use Rattle.pw_findings.proofs.telling_states.put_scale.Goals as goal

pub returns-in-OneState : goal.returns-in-OneState
returns-in-OneState g c = rw c.in-OneState.is c.put_words.ensures

pub returns-in-NoDomain : goal.returns-in-NoDomain
returns-in-NoDomain g c = rw c.in-NoDomain.is c.put_words-in-NoDomain.ensures

pub returns-in-ControlRepeats : goal.returns-in-ControlRepeats
returns-in-ControlRepeats g c = rw c.in-ControlRepeats.is c.put_alike.ensures

pub returns-in-NoLatency : goal.returns-in-NoLatency
returns-in-NoLatency g c = rw c.in-NoLatency.is c.put_words-in-NoLatency.ensures
