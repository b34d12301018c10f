use Rattle.pw_words.proofs.Asking.{one_asked}
use Rattle.pw_words.proofs.laws.one_command.Goals as goal

pub returns : goal.returns
returns c = one_asked
