use Rattle.pw_text.proofs.Putting.{PutsText-stop, PutsText-then}
use Rattle.pw_check.proofs.Fed.{PutsLine}
use Rattle.pw_check.proofs.machine.put_cpu.Goals as goal

pub returns-in_err-put_named : goal.returns-in_err-put_named
returns-in_err-put_named g c = PutsLine _ (PutsText-stop _ c.from_residual.result c.from_residual.ensures.0 (rw c.as_slice.ensures at c.in_err-put_named.ensures))

pub returns-in_err-put_parent : goal.returns-in_err-put_parent
returns-in_err-put_parent g c =
    PutsLine _ (PutsText-then (rw c.as_slice.ensures at c.in_ok-put_named.ensures) (PutsText-stop _ c.from_residual-in_err-put_parent.result c.from_residual-in_err-put_parent.ensures.0
    c.in_err-put_parent.ensures))

pub returns-in_err-put : goal.returns-in_err-put
returns-in_err-put g c =
    PutsLine _ (PutsText-then (rw c.as_slice.ensures at c.in_ok-put_named.ensures)
    (PutsText-then c.in_ok-put_parent.ensures (PutsText-stop _ c.from_residual-in_err-put.result c.from_residual-in_err-put.ensures.0 c.in_err-put.ensures)))

pub returns-in_err-put_word : goal.returns-in_err-put_word
returns-in_err-put_word g c =
    PutsLine _ (PutsText-then (rw c.as_slice.ensures at c.in_ok-put_named.ensures)
    (PutsText-then c.in_ok-put_parent.ensures (PutsText-then c.in_ok-put.ensures (PutsText-stop _ c.from_residual-in_err-put_word.result c.from_residual-in_err-put_word.ensures.0
    (rw c.table_name.ensures at c.in_err-put_word.ensures)))))

pub returns-in_err-put_count : goal.returns-in_err-put_count
returns-in_err-put_count g c =
    PutsLine _ (PutsText-then (rw c.as_slice.ensures at c.in_ok-put_named.ensures)
    (PutsText-then c.in_ok-put_parent.ensures (PutsText-then c.in_ok-put.ensures (PutsText-then (rw c.table_name.ensures at c.in_ok-put_word.ensures)
    (PutsText-stop _ c.from_residual-in_err-put_count.result c.from_residual-in_err-put_count.ensures.0 (rw c.states.ensures at c.in_err-put_count.ensures))))))

pub returns-in_err-put_count-2 : goal.returns-in_err-put_count-2
returns-in_err-put_count-2 g c =
    PutsLine _ (PutsText-then (rw c.as_slice.ensures at c.in_ok-put_named.ensures)
    (PutsText-then c.in_ok-put_parent.ensures (PutsText-then c.in_ok-put.ensures (PutsText-then (rw c.table_name.ensures at c.in_ok-put_word.ensures)
    (PutsText-then (rw c.states.ensures at c.in_ok-put_count.ensures) (PutsText-stop _ c.from_residual-in_err-put_count-2.result c.from_residual-in_err-put_count-2.ensures.0
    (rw c.state_count.ensures at c.in_err-put_count-2.ensures)))))))

pub returns-in_err-put_count-3 : goal.returns-in_err-put_count-3
returns-in_err-put_count-3 g c =
    PutsLine _ (PutsText-then (rw c.as_slice.ensures at c.in_ok-put_named.ensures)
    (PutsText-then c.in_ok-put_parent.ensures (PutsText-then c.in_ok-put.ensures (PutsText-then (rw c.table_name.ensures at c.in_ok-put_word.ensures)
    (PutsText-then (rw c.states.ensures at c.in_ok-put_count.ensures) (PutsText-then (rw c.state_count.ensures at c.in_ok-put_count-2.ensures)
    (PutsText-stop _ c.from_residual-in_err-put_count-3.result c.from_residual-in_err-put_count-3.ensures.0 (rw c.state_count-2.ensures at c.in_err-put_count-3.ensures))))))))

pub returns-in_err-put_labelled : goal.returns-in_err-put_labelled
returns-in_err-put_labelled g c =
    PutsLine _ (PutsText-then (rw c.as_slice.ensures at c.in_ok-put_named.ensures)
    (PutsText-then c.in_ok-put_parent.ensures (PutsText-then c.in_ok-put.ensures (PutsText-then (rw c.table_name.ensures at c.in_ok-put_word.ensures)
    (PutsText-then (rw c.states.ensures at c.in_ok-put_count.ensures) (PutsText-then (rw c.state_count.ensures at c.in_ok-put_count-2.ensures)
    (PutsText-then (rw c.state_count-2.ensures at c.in_ok-put_count-3.ensures) (PutsText-stop _ c.from_residual-in_err-put_labelled.result c.from_residual-in_err-put_labelled.ensures.0
    (rw c.revision_of.ensures at c.in_err-put_labelled.ensures)))))))))

pub returns : goal.returns
returns g c =
    PutsLine _ (PutsText-then (rw c.as_slice.ensures at c.in_ok-put_named.ensures)
    (PutsText-then c.in_ok-put_parent.ensures (PutsText-then c.in_ok-put.ensures (PutsText-then (rw c.table_name.ensures at c.in_ok-put_word.ensures)
    (PutsText-then (rw c.states.ensures at c.in_ok-put_count.ensures) (PutsText-then (rw c.state_count.ensures at c.in_ok-put_count-2.ensures)
    (PutsText-then (rw c.state_count-2.ensures at c.in_ok-put_count-3.ensures) (PutsText-then (rw c.revision_of.ensures at c.in_ok-put_labelled.ensures) c.put-2.ensures))))))))
