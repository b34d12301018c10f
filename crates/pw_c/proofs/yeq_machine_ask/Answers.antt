use Rattle.pw_c.proofs.Told.{told}
use Rattle.pw_c.proofs.yeq_machine_ask.Goals as goal

pub returns : goal.returns
returns c = (c.ask.result, told c.code.result c.ask.result c.code.type_inv c.code.ensures, c.ask.ensures)
