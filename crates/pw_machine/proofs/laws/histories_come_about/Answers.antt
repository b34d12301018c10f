use Rattle.pw_machine.proofs.Histories.{histories_come_about}
use Rattle.pw_machine.proofs.laws.histories_come_about.Goals as goal

pub returns : goal.returns
returns c = histories_come_about
