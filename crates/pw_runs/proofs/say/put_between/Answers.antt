use Rattle.std.proofs.Common.{decimal}
use Rattle.pw_text.proofs.Putting.{PutsText-stop, PutsText-then, stop_at_first}
use Rattle.pw_runs.proofs.say.put_between.Goals as goal

pub returns-in_err-put : goal.returns-in_err-put
returns-in_err-put g c = stop_at_first (decimal c.args.number) c.args.after.now c.from_residual.result c.from_residual.ensures.0 c.in_err-put.ensures

pub returns-in_err-put_number : goal.returns-in_err-put_number
returns-in_err-put_number g c =
    PutsText-stop c.args.after.now c.from_residual-in_err-put_number.result c.from_residual-in_err-put_number.ensures.0
    (PutsText-then c.in_ok-put.ensures c.in_err-put_number.ensures)

pub returns : goal.returns
returns g c = PutsText-then (PutsText-then c.in_ok-put.ensures c.in_ok-put_number.ensures) c.put-2.ensures
