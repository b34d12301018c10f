use Rattle.pw_model.proofs.Holding.{holds}
use Rattle.pw_model.proofs.record_laws.states_fit_records.Goals as goal

pub returns : goal.returns
returns c = λ P S r s. holds P S s r
