use Rattle.pw_cppc.proofs.Joining.{legal-empty, legal-first, legal-follows, legal-more}
use Rattle.pw_cppc.proofs.history.legal_histories_grow.Goals as goal

pub returns-clause-empty : goal.returns-clause-empty
returns-clause-empty c = λ P. legal-empty P

pub returns-clause-more : goal.returns-clause-more
returns-clause-more c = λ P H e legal. (λ more. legal-follows P H e more, λ follows. legal-more P H e legal follows)

pub returns-clause-beginning : goal.returns-clause-beginning
returns-clause-beginning c = λ P H G legal. legal-first P H G legal
