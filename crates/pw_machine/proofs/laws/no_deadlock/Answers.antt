use Rattle.pw_machine.proofs.Deadlock.{no_deadlock}
use Rattle.pw_machine.proofs.laws.no_deadlock.Goals as goal

pub returns : goal.returns
returns c = no_deadlock
