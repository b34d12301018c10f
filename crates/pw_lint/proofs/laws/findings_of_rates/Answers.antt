use Rattle.pw_lint.proofs.Found.{found_of_rates}
use Rattle.pw_lint.proofs.laws.findings_of_rates.Goals as goal

pub returns : goal.returns
returns c = found_of_rates
