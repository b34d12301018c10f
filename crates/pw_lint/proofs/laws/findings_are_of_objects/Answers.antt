use Rattle.pw_lint.proofs.Found.{found_of_cpu, found_of_domain, found_of_machine}
use Rattle.pw_lint.proofs.FoundStates.{found_passed}
use Rattle.pw_lint.proofs.laws.findings_are_of_objects.Goals as goal

pub returns-clause-passed : goal.returns-clause-passed
returns-clause-passed c = found_passed

pub returns-clause-machine : goal.returns-clause-machine
returns-clause-machine c = found_of_machine

pub returns-clause-processor : goal.returns-clause-processor
returns-clause-processor c = found_of_cpu

pub returns-clause-domain : goal.returns-clause-domain
returns-clause-domain c = found_of_domain
