use Rattle.pw_text.proofs.Putting.{PutsText-stop, PutsText-then}
use Rattle.pw_text.proofs.words.put_asker.Goals as goal

pub returns-in_err-put_decimal : goal.returns-in_err-put_decimal
returns-in_err-put_decimal g c = PutsText-stop _ c.from_residual.result c.from_residual.ensures.0 c.in_err-put_decimal.ensures

pub returns-in_err-put : goal.returns-in_err-put
returns-in_err-put g c = PutsText-then c.in_ok-put_decimal.ensures (PutsText-stop _ c.from_residual-in_err-put.result c.from_residual-in_err-put.ensures.0 c.in_err-put.ensures)

pub returns : goal.returns
returns g c = PutsText-then c.in_ok-put_decimal.ensures (PutsText-then c.in_ok-put.ensures c.put-2.ensures)
