use Rattle.pw_machine.proofs.Standing.{walks_stand}
use Rattle.pw_machine.proofs.walk_laws.walks_stand_at_records.Goals as goal

pub returns : goal.returns
returns c = λ P q held has. walks_stand P q held has
