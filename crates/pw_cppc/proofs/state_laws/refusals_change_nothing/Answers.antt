use Rattle.std.proofs.Common.{[], ◌++◌, ap}
use Rattle.pw_cppc.specs.Requests.{cpu_of}
use Rattle.pw_cppc.specs.declared.reply.CppcReply.TheVariants.{Stands}
use Rattle.pw_cppc.specs.States.{changed, stands}
use Rattle.pw_cppc.specs.Answers.{after, answer, if_accepted}
use Rattle.pw_cppc.specs.Operations.{bound_ops, ops_of, standing_ops}
use Rattle.pw_cppc.proofs.state_laws.refusals_change_nothing.Goals as goal

pub returns-clause-numbers : goal.returns-clause-numbers
unfolding after
returns-clause-numbers c = λ P S q r e. ap (λ x. if_accepted x (λ reply. S) (changed S q)) e

pub returns-clause-operations : goal.returns-clause-operations
unfolding ops_of
returns-clause-operations c = λ P S q r e. ap (λ x. if_accepted x (λ reply. []) (bound_ops P q ++ standing_ops P S (changed S q) (cpu_of q))) e

pub returns-clause-answer : goal.returns-clause-answer
unfolding answer
returns-clause-answer c = λ P S q r e. ap (λ x. if_accepted x (λ reply. reply) (Stands (stands P (changed S q) (cpu_of q)))) e
