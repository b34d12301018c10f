use Rattle.pw_c.proofs.Told.{told}
use Rattle.pw_c.proofs.yeq_seat_seal.Goals as goal

pub returns : goal.returns
returns c = (c.seal_seat.result, told c.code.result c.seal_seat.result c.code.type_inv c.code.ensures, c.seal_seat.ensures)
