use Rattle.pw_cppc.proofs.Controls.{any_stands, said_stands}
use Rattle.pw_cppc.proofs.state_laws.controls_stand.Goals as goal

pub returns-clause-each : goal.returns-clause-each
returns-clause-each c = λ P H d p control faults on own has each. said_stands P d p on own control has each H faults

pub returns-clause-any : goal.returns-clause-any
returns-clause-any c = λ P H d p faults on any own. any_stands P d p on any own H faults
