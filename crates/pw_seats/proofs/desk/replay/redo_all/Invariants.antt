use Rattle.pw_cppc.specs.States.{AreNumbers}
use Rattle.pw_seats.proofs.desk.replay.redo_all.Given as goal

abbrev pub invariant-loop-entry : goal.invariant-loop-entry
invariant-loop-entry l = AreNumbers l.plan l.state
