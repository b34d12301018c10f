use Rattle.pw_words.proofs.Asking.{taken_other}
use Rattle.pw_words.proofs.laws.taken_words.Goals as goal

pub returns : goal.returns
returns c = taken_other
