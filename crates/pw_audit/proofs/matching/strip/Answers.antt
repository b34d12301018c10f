use Rattle.pw_audit.proofs.Starts.{strips}
use Rattle.pw_audit.proofs.matching.strip.Goals as goal

pub returns : goal.returns
returns c = strips c.strip_prefix.result c.args.text.now c.args.left.now c.strip_prefix.ensures.cases
