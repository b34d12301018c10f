use Rattle.pw_plan.proofs.Firsts.{index_shows}
use Rattle.pw_plan.proofs.laws.indices_show_first_places.Goals as goal

pub returns : goal.returns
returns c = λ P p i lt. index_shows P p i lt
