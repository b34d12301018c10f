use Rattle.std.proofs.Common.{codes}
use Rattle.pw_text.proofs.Putting.{PutsText-stop, PutsText-then, stop_at_first}
use Rattle.pw_load.specs.Lines.{fault_words}
use Rattle.pw_load.proofs.lines.put_fault_line.Goals as goal

pub returns-in_err-put_block_start : goal.returns-in_err-put_block_start
returns-in_err-put_block_start g c =
    stop_at_first (fault_words c.args.fault) (codes "\n") c.from_residual.result c.from_residual.ensures.0 c.in_err-put_block_start.ensures

pub returns-in_err-put_fault_words : goal.returns-in_err-put_fault_words
returns-in_err-put_fault_words g c =
    PutsText-stop (codes "\n") c.from_residual-in_err-put_fault_words.result c.from_residual-in_err-put_fault_words.ensures.0
    (PutsText-then c.in_ok-put_block_start.ensures c.in_err-put_fault_words.ensures)

pub returns : goal.returns
returns g c = PutsText-then (PutsText-then c.in_ok-put_block_start.ensures c.in_ok-put_fault_words.ensures) c.put.ensures
