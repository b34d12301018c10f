use Rattle.pw_core.proofs.Climbing.{chain-extended}
use Rattle.pw_core.proofs.chain.extended.Goals as goal

pub returns : goal.returns
returns c = chain-extended c.args.chain c.args.state c.requires.chain c.requires.room
