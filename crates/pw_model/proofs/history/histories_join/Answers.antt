use Rattle.pw_model.proofs.Joining.{history_ops-append, replay-append, replies-append}
use Rattle.pw_model.proofs.history.histories_join.Goals as goal

pub returns-clause-state : goal.returns-clause-state
returns-clause-state c = λ P H G. replay-append P H G

pub returns-clause-replies : goal.returns-clause-replies
returns-clause-replies c = λ P H G. replies-append P H G

pub returns-clause-operations : goal.returns-clause-operations
returns-clause-operations c = λ P H G. history_ops-append P H G
