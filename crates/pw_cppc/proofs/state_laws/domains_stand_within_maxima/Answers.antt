use Rattle.pw_cppc.proofs.Gathering.{stands_allowed, stands_fast, stands_least, stands_satisfied}
use Rattle.pw_cppc.proofs.state_laws.domains_stand_within_maxima.Goals as goal

pub returns-clause-allowed : goal.returns-clause-allowed
returns-clause-allowed c = λ P S d p software. stands_allowed P S d p software

pub returns-clause-least : goal.returns-clause-least
returns-clause-least c = λ P S d p v software all. stands_least P S d p software v all

pub returns-clause-fast : goal.returns-clause-fast
returns-clause-fast c = λ P S d p v software le allowed. stands_fast P S d p software v le allowed

pub returns-clause-satisfied : goal.returns-clause-satisfied
returns-clause-satisfied c = λ P S d p v software le allowed all. stands_satisfied P S d p software v le allowed all
