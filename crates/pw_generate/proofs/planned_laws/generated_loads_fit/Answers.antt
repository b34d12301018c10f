use Rattle.pw_generate.proofs.Loads.{load_bounded, load_has, load_short}
use Rattle.pw_generate.proofs.planned_laws.generated_loads_fit.Goals as goal

pub returns-clause-lines : goal.returns-clause-lines
returns-clause-lines c = λ n l. load_short n l

pub returns-clause-operations : goal.returns-clause-operations
returns-clause-operations c = λ n P l cpus. load_bounded n P cpus l

pub returns-clause-fit : goal.returns-clause-fit
returns-clause-fit c = λ n P cpus. load_has n P cpus
