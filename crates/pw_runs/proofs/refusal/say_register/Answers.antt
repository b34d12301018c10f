use Rattle.pw_runs.proofs.Worded.{fault_line}
use Rattle.pw_runs.proofs.refusal.say_register.Goals as goal

pub returns-clause-line : goal.returns-clause-line
returns-clause-line g c = rw (fault_line c.args.done) at c.say_number.ensures.line
