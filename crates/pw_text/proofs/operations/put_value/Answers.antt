use Rattle.pw_text.proofs.Putting.{PutsText-stop, PutsText-then}
use Rattle.pw_text.proofs.operations.put_value.Goals as goal

pub returns-in_err-put : goal.returns-in_err-put
returns-in_err-put g c = PutsText-stop _ c.from_residual.result c.from_residual.ensures.0 c.in_err-put.ensures

pub returns-in_err-put_hexadecimal : goal.returns-in_err-put_hexadecimal
returns-in_err-put_hexadecimal g c = PutsText-then c.in_ok-put.ensures
    (PutsText-stop _ c.from_residual-in_err-put_hexadecimal.result c.from_residual-in_err-put_hexadecimal.ensures.0 c.in_err-put_hexadecimal.ensures)

pub returns : goal.returns
returns g c = PutsText-then c.in_ok-put.ensures (PutsText-then c.in_ok-put_hexadecimal.ensures c.put-2.ensures)
