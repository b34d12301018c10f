use Rattle.pw_lint.proofs.FoundParents.{found_beside}
use Rattle.pw_lint.proofs.laws.findings_beside_parents.Goals as goal

pub returns : goal.returns
returns c = found_beside
