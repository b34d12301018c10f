use Rattle.pw_model.proofs.Central.{is_local}
use Rattle.pw_model.proofs.Plans.{wired}
use Rattle.pw_model.proofs.record_laws.requests_are_local.Goals as goal

pub returns : goal.returns
returns c = λ P q has. is_local P q (wired P) has
