use Rattle.pw_turns.proofs.Going.{two_steps}
use Rattle.pw_turns.proofs.laws.two_steps_are_one.Goals as goal

pub returns : goal.returns
returns c = two_steps
