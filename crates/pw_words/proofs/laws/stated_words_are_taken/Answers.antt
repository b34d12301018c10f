use Rattle.pw_words.specs.App.{line_app}
use Rattle.pw_words.proofs.Taking.{takes_faultless}
use Rattle.pw_words.proofs.laws.stated_words_are_taken.Goals as goal

pub returns : goal.returns
returns c = takes_faultless line_app
