use Rattle.pw_machine.proofs.Meeting.{two_seats_meet}
use Rattle.pw_machine.proofs.laws.two_seats_meet.Goals as goal

pub returns : goal.returns
returns c = two_seats_meet
