use Rattle.pw_text.proofs.Putting.{PutsText-as, PutsText-stop, PutsText-then}
use Rattle.pw_generate.proofs.Printed.{counts_text}
use Rattle.pw_generate.proofs.printing.put_counts.Goals as goal

pub returns-in_err-put_line : goal.returns-in_err-put_line
returns-in_err-put_line g c =
    let n = c.args.counts.now in
    PutsText-as _ (counts_text n.entered n.running n.stands n.refused)
    (PutsText-stop _ c.from_residual.result c.from_residual.ensures.0 c.in_err-put_line.ensures)

pub returns-in_err-put_line-2 : goal.returns-in_err-put_line-2
returns-in_err-put_line-2 g c =
    let n = c.args.counts.now in
    PutsText-as _ (counts_text n.entered n.running n.stands n.refused)
    (PutsText-then c.in_ok-put_line.ensures
    (PutsText-stop _ c.from_residual-in_err-put_line-2.result c.from_residual-in_err-put_line-2.ensures.0 c.in_err-put_line-2.ensures))

pub returns-in_err-put_line-3 : goal.returns-in_err-put_line-3
returns-in_err-put_line-3 g c =
    let n = c.args.counts.now in
    PutsText-as _ (counts_text n.entered n.running n.stands n.refused)
    (PutsText-then c.in_ok-put_line.ensures (PutsText-then c.in_ok-put_line-2.ensures
    (PutsText-stop _ c.from_residual-in_err-put_line-3.result c.from_residual-in_err-put_line-3.ensures.0 c.in_err-put_line-3.ensures)))

pub returns : goal.returns
returns g c =
    let n = c.args.counts.now in
    PutsText-as _ (counts_text n.entered n.running n.stands n.refused)
    (PutsText-then c.in_ok-put_line.ensures
    (PutsText-then c.in_ok-put_line-2.ensures (PutsText-then c.in_ok-put_line-3.ensures c.put_line-4.ensures)))
