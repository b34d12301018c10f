use Rattle.pw_generate.proofs.Whole.{machine_apart, machine_faultless, machine_planned, machine_plans}
use Rattle.pw_generate.proofs.planned_laws.generated_machines_have_plans.Goals as goal

pub returns-clause-distinct : goal.returns-clause-distinct
returns-clause-distinct c = λ n l. machine_apart n l

pub returns-clause-planned : goal.returns-clause-planned
returns-clause-planned c = λ n l. machine_planned n l

pub returns-clause-memory : goal.returns-clause-memory
returns-clause-memory c = λ n f l is. machine_faultless n l f is

pub returns-clause-plan : goal.returns-clause-plan
returns-clause-plan c = λ n P notes l is. machine_plans n l P notes is
