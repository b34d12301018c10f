use Rattle.pw_text.proofs.Putting.{PutsText-stop, PutsText-then}
use Rattle.pw_check.proofs.Fed.{PutsLine}
use Rattle.pw_check.proofs.machine.put_container.Goals as goal

pub returns-in_err-put_named : goal.returns-in_err-put_named
returns-in_err-put_named g c = PutsLine _ (PutsText-stop _ c.from_residual.result c.from_residual.ensures.0 (rw c.as_slice.ensures at c.in_err-put_named.ensures))

pub returns-in_err-put_parent : goal.returns-in_err-put_parent
returns-in_err-put_parent g c =
    PutsLine _ (PutsText-then (rw c.as_slice.ensures at c.in_ok-put_named.ensures) (PutsText-stop _ c.from_residual-in_err-put_parent.result c.from_residual-in_err-put_parent.ensures.0
    c.in_err-put_parent.ensures))

pub returns-in_err-put_count : goal.returns-in_err-put_count
returns-in_err-put_count g c =
    PutsLine _ (PutsText-then (rw c.as_slice.ensures at c.in_ok-put_named.ensures)
    (PutsText-then c.in_ok-put_parent.ensures (PutsText-stop _ c.from_residual-in_err-put_count.result c.from_residual-in_err-put_count.ensures.0 (rw c.states.ensures at c.in_err-put_count.ensures))))

pub returns : goal.returns
returns g c =
    PutsLine _ (PutsText-then (rw c.as_slice.ensures at c.in_ok-put_named.ensures)
    (PutsText-then c.in_ok-put_parent.ensures (PutsText-then (rw c.states.ensures at c.in_ok-put_count.ensures) c.put.ensures)))
