use Rattle.pw_model.proofs.Operating.{idle_enters}
use Rattle.pw_model.proofs.acting.idle_requests_enter_first.Goals as goal

pub returns : goal.returns
returns c = λ P S p s t e. idle_enters P S p s t e
