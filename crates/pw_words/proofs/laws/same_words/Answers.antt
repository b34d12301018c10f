use Rattle.pw_words.proofs.Same.{all_kept}
use Rattle.pw_words.proofs.laws.same_words.Goals as goal

pub returns : goal.returns
returns c = all_kept
