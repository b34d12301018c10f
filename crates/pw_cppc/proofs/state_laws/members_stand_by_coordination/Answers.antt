use Rattle.pw_cppc.proofs.Alone.{stands_nearest, stands_together}
use Rattle.pw_cppc.proofs.state_laws.members_stand_by_coordination.Goals as goal

pub returns-clause-together : goal.returns-clause-together
returns-clause-together c = λ P S d p q software. stands_together P S d p q software

pub returns-clause-alone : goal.returns-clause-alone
returns-clause-alone c = λ P S d p hardware. stands_nearest P S d p hardware
