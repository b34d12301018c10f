use Rattle.pw_cppc.proofs.Joining.{fault_last, fault_none, faultless_none}
use Rattle.pw_cppc.proofs.history.histories_stop_at_faults.Goals as goal

pub returns-clause-none : goal.returns-clause-none
returns-clause-none c = λ H. (λ e. fault_none H e, λ a. faultless_none H a)

pub returns-clause-last : goal.returns-clause-last
returns-clause-last c = λ H e k a is. fault_last H e k a is
