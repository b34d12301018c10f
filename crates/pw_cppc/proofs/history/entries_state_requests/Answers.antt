use Rattle.pw_cppc.proofs.Joining.{entry_states, request_of-entry}
use Rattle.pw_cppc.proofs.history.entries_state_requests.Goals as goal

pub returns-clause-request : goal.returns-clause-request
returns-clause-request c = λ seat fault q. request_of-entry seat fault q

pub returns-clause-entry : goal.returns-clause-entry
returns-clause-entry c = λ P seat fault q has. entry_states P seat fault q has
