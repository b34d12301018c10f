use Rattle.pw_machine.proofs.Ending.{ends_soon}
use Rattle.pw_machine.proofs.laws.requests_end_soon.Goals as goal

pub returns : goal.returns
returns c = ends_soon
