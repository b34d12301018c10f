use Rattle.pw_text.proofs.Putting.{PutsText-stop, PutsText-then}
use Rattle.pw_findings.proofs.putting.put_rate.Goals as goal

pub returns-in_err-put_number : goal.returns-in_err-put_number
returns-in_err-put_number g c = PutsText-stop _ c.from_residual.result c.from_residual.ensures.0 (rw c.from.ensures at c.in_err-put_number.ensures)

pub returns : goal.returns
returns g c = PutsText-then (rw c.from.ensures at c.in_ok-put_number.ensures) (rw c.unit_name.ensures at c.put.ensures)
