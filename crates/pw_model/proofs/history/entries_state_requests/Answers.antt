use Rattle.pw_model.proofs.Joining.{entry_is, request_of-entry}
use Rattle.pw_model.proofs.history.entries_state_requests.Goals as goal

pub returns-clause-request : goal.returns-clause-request
returns-clause-request c = λ seat q. request_of-entry seat q

pub returns-clause-entry : goal.returns-clause-entry
returns-clause-entry c = λ P seat q has. entry_is P seat q has
