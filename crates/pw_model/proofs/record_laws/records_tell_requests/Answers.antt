use Rattle.pw_model.proofs.Plans.{wired}
use Rattle.pw_model.proofs.Steps.{is_told, keeps_records}
use Rattle.pw_model.proofs.record_laws.records_tell_requests.Goals as goal

pub returns-clause-told : goal.returns-clause-told
returns-clause-told c = λ P q has. is_told P q (wired P) has

pub returns-clause-kept : goal.returns-clause-kept
returns-clause-kept c = λ P q has. keeps_records P q (wired P) has
