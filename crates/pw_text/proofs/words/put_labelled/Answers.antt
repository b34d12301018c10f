use Rattle.pw_text.proofs.Putting.{PutsText-stop, PutsText-then}
use Rattle.pw_text.proofs.words.put_labelled.Goals as goal

pub returns-in_err-put : goal.returns-in_err-put
returns-in_err-put g c = PutsText-stop _ c.from_residual.result c.from_residual.ensures.0 c.in_err-put.ensures

pub returns : goal.returns
returns g c = PutsText-then c.in_ok-put.ensures (rw c.from.ensures at c.put_decimal.ensures)
