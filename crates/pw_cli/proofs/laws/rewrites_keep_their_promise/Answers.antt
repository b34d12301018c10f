use Rattle.pw_cli.proofs.BlockPromising.{keeps_rewrite}
use Rattle.pw_cli.proofs.laws.rewrites_keep_their_promise.Goals as goal

pub returns : goal.returns
returns c = λ words names s before after asks tells ran. keeps_rewrite words names s before after tells ran asks
