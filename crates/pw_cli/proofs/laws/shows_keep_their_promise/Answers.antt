use Rattle.pw_cli.proofs.BlockPromising.{keeps_json, keeps_show}
use Rattle.pw_cli.proofs.laws.shows_keep_their_promise.Goals as goal

pub returns-clause-plain : goal.returns-clause-plain
returns-clause-plain c = λ words names s before after asks tells ran. keeps_show words names s before after tells ran asks

pub returns-clause-json : goal.returns-clause-json
returns-clause-json c = λ words names s before after asks tells ran. keeps_json words names s before after tells ran asks
