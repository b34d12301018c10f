use Rattle.pw_model.specs.States.{IsState}
use Rattle.pw_worked.proofs.steps.case.first_other.Given as goal

abbrev pub invariant-loop-line : goal.invariant-loop-line
invariant-loop-line l = IsState l.plan l.state
