use Rattle.pw_machine.proofs.Told.{seats_told}
use Rattle.pw_machine.proofs.laws.seats_are_told.Goals as goal

pub returns : goal.returns
returns c = seats_told
