use Rattle.pw_cli.proofs.CppcPromising.{keeps_cppc}
use Rattle.pw_cli.proofs.laws.runs_of_cppc_keep_their_promise.Goals as goal

pub returns : goal.returns
returns c = keeps_cppc
