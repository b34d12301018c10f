use Rattle.pw_cppc.proofs.Starts.{all_start, start_there}
use Rattle.pw_cppc.proofs.state_laws.openings_set_controls.Goals as goal

pub returns-clause-only : goal.returns-clause-only
returns-clause-only c = λ P. all_start P

pub returns-clause-all : goal.returns-clause-all
returns-clause-all c = λ P o start. start_there P o start
