use Rattle.pw_c.proofs.Told.{told}
use Rattle.pw_c.proofs.yeq_machine_ops.Goals as goal

pub returns : goal.returns
returns c = (c.ops.result, told c.code.result c.ops.result c.code.type_inv c.code.ensures, c.ops.ensures)
