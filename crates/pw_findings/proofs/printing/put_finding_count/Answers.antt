use Rattle.pw_text.proofs.Putting.{PutsText-stop, PutsText-then}
use Rattle.pw_findings.proofs.printing.put_finding_count.Goals as goal

pub returns-in_err-put : goal.returns-in_err-put
returns-in_err-put g c = PutsText-stop _ c.from_residual.result c.from_residual.ensures.0 c.in_err-put.ensures

pub returns-in_err-put_number : goal.returns-in_err-put_number
returns-in_err-put_number g c = PutsText-then c.in_ok-put.ensures
    (PutsText-stop _ c.from_residual-in_err-put_number.result c.from_residual-in_err-put_number.ensures.0 c.in_err-put_number.ensures)

pub returns : goal.returns
returns g c = PutsText-then c.in_ok-put.ensures (PutsText-then c.in_ok-put_number.ensures c.put-2.ensures)
