use Rattle.pw_text.proofs.Putting.{PutsText-stop, PutsText-then}
use Rattle.pw_findings.proofs.printing.put_finding.Goals as goal

pub returns-in_err-put_place : goal.returns-in_err-put_place
returns-in_err-put_place g c = PutsText-stop _ c.from_residual.result c.from_residual.ensures.0 (rw c.as_slice.ensures at c.in_err-put_place.ensures)

pub returns-in_err-put_kind : goal.returns-in_err-put_kind
returns-in_err-put_kind g c = PutsText-then (rw c.as_slice.ensures at c.in_ok-put_place.ensures)
    (PutsText-stop _ c.from_residual-in_err-put_kind.result c.from_residual-in_err-put_kind.ensures.0 c.in_err-put_kind.ensures)

pub returns : goal.returns
returns g c = PutsText-then (rw c.as_slice.ensures at c.in_ok-put_place.ensures) (PutsText-then c.in_ok-put_kind.ensures c.put.ensures)
