use Rattle.pw_c.proofs.Told.{told}
use Rattle.pw_c.proofs.yeq_endless_finish.Goals as goal

pub returns : goal.returns
returns c = (c.finish_endless.result, told c.code.result c.finish_endless.result c.code.type_inv c.code.ensures, c.finish_endless.ensures)
