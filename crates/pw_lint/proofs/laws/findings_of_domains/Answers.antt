use Rattle.pw_lint.proofs.Found.{unfit_is_found}
use Rattle.pw_lint.proofs.laws.findings_of_domains.Goals as goal

pub returns : goal.returns
returns c = unfit_is_found
