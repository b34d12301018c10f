use Rattle.pw_seats.specs.Steppers.{AreSteppers}
use Rattle.pw_seats.proofs.steps.play_all.Given as goal

abbrev pub invariant-loop-line : goal.invariant-loop-line
invariant-loop-line g l = AreSteppers l.shared l.pair
