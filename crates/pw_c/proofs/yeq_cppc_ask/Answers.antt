use Rattle.pw_c.proofs.Told.{told}
use Rattle.pw_c.proofs.yeq_cppc_ask.Goals as goal

pub returns : goal.returns
returns c = (c.ask_cppc.result, told c.code.result c.ask_cppc.result c.code.type_inv c.code.ensures, c.ask_cppc.ensures)
