use Rattle.pw_model.proofs.Operating.{all_start}
use Rattle.pw_model.proofs.acting.domains_are_set_at_the_start.Goals as goal

pub returns : goal.returns
returns c = λ P. all_start P
