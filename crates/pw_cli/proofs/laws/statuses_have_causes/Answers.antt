use Rattle.pw_cli.proofs.StatusPromising.{keeps_status}
use Rattle.pw_cli.proofs.laws.statuses_have_causes.Goals as goal

pub returns : goal.returns
returns c = keeps_status
