use Rattle.pw_text.proofs.Putting.{PutsText-as, PutsText-stop, PutsText-then}
use Rattle.pw_text.proofs.openings.put_opened.Goals as goal
use Rattle.pw_text.specs.HistoryText.{op_line_by}
use Rattle.pw_text.specs.Paths.{text_at}
use Rattle.pw_text.proofs.Printed.{opened_text}

pub returns-in_err-put_open_line : goal.returns-in_err-put_open_line
returns-in_err-put_open_line g c = PutsText-as _ (opened_text (op_line_by (text_at c.args.paths.now)) c.args.ops.now c.args.opening)
    (PutsText-stop _ c.from_residual.result c.from_residual.ensures.0 c.in_err-put_open_line.ensures)

pub returns-in_err-put : goal.returns-in_err-put
returns-in_err-put g c = PutsText-as _ (opened_text (op_line_by (text_at c.args.paths.now)) c.args.ops.now c.args.opening) (PutsText-then c.in_ok-put_open_line.ensures
    (PutsText-stop _ c.from_residual-in_err-put.result c.from_residual-in_err-put.ensures.0 c.in_err-put.ensures))

pub returns : goal.returns
returns g c = PutsText-as _ (opened_text (op_line_by (text_at c.args.paths.now)) c.args.ops.now c.args.opening) (PutsText-then c.in_ok-put_open_line.ensures
    (PutsText-then c.in_ok-put.ensures (rw c.opened.ensures at c.put_ops.ensures)))
