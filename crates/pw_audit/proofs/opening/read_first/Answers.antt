use Rattle.pw_audit.proofs.Firsts.{no_first}
use Rattle.pw_audit.proofs.opening.read_first.Goals as goal

pub returns-in-None-strip : goal.returns-in-None-strip
returns-in-None-strip c = no_first c.args.count c.args.text.now c.in-None.ensures c.in-None-strip.ensures
