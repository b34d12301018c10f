use Rattle.pw_model.proofs.Plans.{wired}
use Rattle.pw_model.proofs.Steps.{stays_in_history}
use Rattle.pw_model.proofs.record_laws.histories_leave_ways.Goals as goal

pub returns : goal.returns
returns c = λ P q has. stays_in_history P q (wired P) has
