use Rattle.std.proofs.Common.{sym}
use Rattle.pw_cppc_drive.proofs.Refusing.{long_is_none}
use Rattle.pw_cppc_drive.proofs.parsing.cppc_parse.Goals as goal

pub returns-in-Some-clause-none : goal.returns-in-Some-clause-none
returns-in-Some-clause-none c = λ other. long_is_none c.args.plan.now c.args.bytes.now c.in-Some.fault (sym c.in-Some.ensures)
