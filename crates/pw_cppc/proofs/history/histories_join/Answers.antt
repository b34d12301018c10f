use Rattle.pw_cppc.proofs.Joining.{history_ops-append, replay-append, requests-append}
use Rattle.pw_cppc.proofs.history.histories_join.Goals as goal

pub returns-clause-state : goal.returns-clause-state
returns-clause-state c = λ P H G. replay-append P H G

pub returns-clause-operations : goal.returns-clause-operations
returns-clause-operations c = λ P H G. history_ops-append P H G

pub returns-clause-requests : goal.returns-clause-requests
returns-clause-requests c = λ H G. requests-append H G
