use Rattle.pw_model.specs.States.{IsState}
use Rattle.pw_seats.proofs.replay.agree_from.Given as goal

abbrev pub invariant-loop-place : goal.invariant-loop-place
invariant-loop-place l = IsState l.plan l.state
