use Rattle.pw_kind.proofs.Joining.{stops_at}
use Rattle.pw_model.specs.History.{power}
use Rattle.pw_model.proofs.Joining.{fault_none, faultless_none}
use Rattle.pw_model.proofs.history.histories_stop_at_faults.Goals as goal

pub returns-clause-none : goal.returns-clause-none
returns-clause-none c = λ H. (λ e. fault_none H e, λ a. faultless_none H a)

pub returns-clause-last : goal.returns-clause-last
returns-clause-last c = λ P H k legal e. stops_at power P k H legal e
