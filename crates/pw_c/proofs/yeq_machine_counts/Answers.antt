use Rattle.pw_c.proofs.Told.{told}
use Rattle.pw_c.proofs.yeq_machine_counts.Goals as goal

pub returns : goal.returns
returns c = (c.count.result, told c.code.result c.count.result c.code.type_inv c.code.ensures, c.count.ensures)
