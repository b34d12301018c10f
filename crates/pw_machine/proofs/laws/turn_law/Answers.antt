use Rattle.pw_machine.proofs.Keeps.{law, step_keeps}
use Rattle.pw_machine.proofs.laws.turn_law.Goals as goal

pub returns-clause-step : goal.returns-clause-step
returns-clause-step c = step_keeps

pub returns-clause-steps : goal.returns-clause-steps
returns-clause-steps c = law
