use Rattle.pw_lint.proofs.Clean.{nothing_at_all}
use Rattle.pw_lint.proofs.Nothing.{nothing_found}
use Rattle.pw_lint.proofs.laws.nothing_is_found.Goals as goal

pub returns-clause-whole : goal.returns-clause-whole
returns-clause-whole c = nothing_at_all

pub returns-clause-plan : goal.returns-clause-plan
returns-clause-plan c = nothing_found
