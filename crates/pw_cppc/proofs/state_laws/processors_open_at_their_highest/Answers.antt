use Rattle.pw_plan.proofs.Grouping.{some_member}
use Rattle.pw_cppc.specs.Planning.{domain_at}
use Rattle.pw_cppc.proofs.Starting.{ask_at_start, maximum_at_start, minimum_at_start, stands_highest}
use Rattle.pw_cppc.proofs.state_laws.processors_open_at_their_highest.Goals as goal

pub returns-clause-asks : goal.returns-clause-asks
returns-clause-asks c = λ P p lt. ask_at_start P p lt

pub returns-clause-minima : goal.returns-clause-minima
returns-clause-minima c = λ P p lt. minimum_at_start P p lt

pub returns-clause-maxima : goal.returns-clause-maxima
returns-clause-maxima c = λ P p lt. maximum_at_start P p lt

pub returns-clause-stands : goal.returns-clause-stands
returns-clause-stands c = λ P d p on few. stands_highest P d on.exists on.fit p on.member (some_member (domain_at P d).members p on.member) few p on.member
