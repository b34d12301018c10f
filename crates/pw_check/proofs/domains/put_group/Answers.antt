use Rattle.pw_text.proofs.Putting.{PutsText-stop, PutsText-then}
use Rattle.pw_check.proofs.Fed.{PutsLine}
use Rattle.pw_check.proofs.domains.put_group.Goals as goal

pub returns-in_err-put_count : goal.returns-in_err-put_count
returns-in_err-put_count g c = PutsLine _ (PutsText-stop _ c.from_residual.result c.from_residual.ensures.0 c.in_err-put_count.ensures)

pub returns-in_err-put_count-2 : goal.returns-in_err-put_count-2
returns-in_err-put_count-2 g c = PutsLine _ (PutsText-then c.in_ok-put_count.ensures (PutsText-stop _ c.from_residual-in_err-put_count-2.result c.from_residual-in_err-put_count-2.ensures.0
    (rw c.as_slice.ensures at c.in_err-put_count-2.ensures)))

pub returns : goal.returns
returns g c = PutsLine _ (PutsText-then c.in_ok-put_count.ensures (PutsText-then (rw c.as_slice.ensures at c.in_ok-put_count-2.ensures) c.put.ensures))
