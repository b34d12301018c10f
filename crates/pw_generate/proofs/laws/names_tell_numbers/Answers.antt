use Rattle.pw_generate.proofs.NameLaws.{container_one, container_segment, cpu_one, cpu_segment}
use Rattle.pw_generate.proofs.laws.names_tell_numbers.Goals as goal

pub returns-clause-container : goal.returns-clause-container
returns-clause-container c = container_segment

pub returns-clause-cpu : goal.returns-clause-cpu
returns-clause-cpu c = cpu_segment

pub returns-clause-one_container : goal.returns-clause-one_container
returns-clause-one_container c = container_one

pub returns-clause-one_cpu : goal.returns-clause-one_cpu
returns-clause-one_cpu c = cpu_one
