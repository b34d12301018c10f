use Rattle.pw_lint.proofs.Found.{found_of_count, found_of_states}
use Rattle.pw_lint.proofs.laws.findings_of_idle_states.Goals as goal

pub returns-clause-states : goal.returns-clause-states
returns-clause-states c = found_of_states

pub returns-clause-count : goal.returns-clause-count
returns-clause-count c = found_of_count
