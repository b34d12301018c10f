use Rattle.pw_lint.proofs.FoundStates.{found_of_c_states}
use Rattle.pw_lint.proofs.laws.findings_of_c_states.Goals as goal

pub returns : goal.returns
returns c = found_of_c_states
