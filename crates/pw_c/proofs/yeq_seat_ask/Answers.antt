use Rattle.pw_c.proofs.Told.{told}
use Rattle.pw_c.proofs.yeq_seat_ask.Goals as goal

pub returns : goal.returns
returns c = (c.ask_seat.result, told c.code.result c.ask_seat.result c.code.type_inv c.code.ensures, c.ask_seat.ensures)
