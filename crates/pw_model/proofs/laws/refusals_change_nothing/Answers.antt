use Rattle.std.proofs.Common.{[], ap}
use Rattle.pw_model.specs.Answers.{accepted, after, answer, changed, if_accepted}
use Rattle.pw_model.specs.Operations.{accepted_ops, ops_of}
use Rattle.pw_model.proofs.laws.refusals_change_nothing.Goals as goal

pub returns-clause-state : goal.returns-clause-state
unfolding after
returns-clause-state c = λ P S q r e. ap (λ x. if_accepted x (λ reply. S) (changed P S q)) e

pub returns-clause-operations : goal.returns-clause-operations
unfolding ops_of
returns-clause-operations c = λ P S q r e. ap (λ x. if_accepted x (λ reply. []) (accepted_ops P S (changed P S q) q)) e

pub returns-clause-answer : goal.returns-clause-answer
unfolding answer
returns-clause-answer c = λ P S q r e. ap (λ x. if_accepted x (λ reply. reply) (accepted P (changed P S q) q)) e
