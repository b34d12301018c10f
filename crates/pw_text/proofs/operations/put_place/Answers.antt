use Rattle.pw_text.proofs.Putting.{PutsText-stop, PutsText-then}
use Rattle.pw_text.proofs.operations.put_place.Goals as goal

pub returns-in_err-put : goal.returns-in_err-put
returns-in_err-put g c = PutsText-stop _ c.from_residual.result c.from_residual.ensures.0 (rw c.path.ensures at c.in_err-put.ensures)

pub returns-in_err-put_front : goal.returns-in_err-put_front
returns-in_err-put_front g c = PutsText-then (rw c.path.ensures at c.in_ok-put.ensures)
    (PutsText-stop _ c.from_residual-in_err-put_front.result c.from_residual-in_err-put_front.ensures.0 c.in_err-put_front.ensures)

pub returns : goal.returns
returns g c = PutsText-then (rw c.path.ensures at c.in_ok-put.ensures) (PutsText-then c.in_ok-put_front.ensures c.put_hexadecimal.ensures)
