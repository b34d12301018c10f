use Rattle.pw_cppc.proofs.Refused.{accepted, comes, is_due, may_ask}
use Rattle.pw_cppc.proofs.state_laws.refusals_come_where_due.Goals as goal

pub returns-clause-accepted : goal.returns-clause-accepted
returns-clause-accepted c = λ P S q. (λ e. may_ask P S q e, λ may. accepted P S q may)

pub returns-clause-refused : goal.returns-clause-refused
returns-clause-refused c = λ P S q r. (λ e. is_due P S q r e, λ due. comes P S q r due)
