use Rattle.pw_text.proofs.Putting.{PutsText-as, PutsText-stop, PutsText-then}
use Rattle.pw_text.specs.HistoryText.{fault_words}
use Rattle.pw_history.proofs.Printed.{entry_text}
use Rattle.pw_history.proofs.printing.put_faulted.Goals as goal

pub returns-in_err-put_head : goal.returns-in_err-put_head
returns-in_err-put_head g c =
    let text = entry_text g.T.Kind.words c.args.named.now.plan.now c.args.number c.args.request (fault_words c.args.done) c.args.ops.now in
    PutsText-as _ text (PutsText-stop _ c.from_residual.result c.from_residual.ensures.0 c.in_err-put_head.ensures)

pub returns-in_err-put_fault : goal.returns-in_err-put_fault
returns-in_err-put_fault g c =
    let text = entry_text g.T.Kind.words c.args.named.now.plan.now c.args.number c.args.request (fault_words c.args.done) c.args.ops.now in
    PutsText-as _ text (PutsText-then c.in_ok-put_head.ensures (PutsText-stop _ c.from_residual-in_err-put_fault.result c.from_residual-in_err-put_fault.ensures.0 c.in_err-put_fault.ensures))

pub returns-in_err-put : goal.returns-in_err-put
returns-in_err-put g c =
    let text = entry_text g.T.Kind.words c.args.named.now.plan.now c.args.number c.args.request (fault_words c.args.done) c.args.ops.now in
    PutsText-as _ text (PutsText-then c.in_ok-put_head.ensures (PutsText-then c.in_ok-put_fault.ensures (PutsText-stop _ c.from_residual-in_err-put.result c.from_residual-in_err-put.ensures.0
    c.in_err-put.ensures)))

pub returns : goal.returns
returns g c =
    let text = entry_text g.T.Kind.words c.args.named.now.plan.now c.args.number c.args.request (fault_words c.args.done) c.args.ops.now in
    PutsText-as _ text (PutsText-then c.in_ok-put_head.ensures (PutsText-then c.in_ok-put_fault.ensures (PutsText-then c.in_ok-put.ensures c.put_done.ensures)))
