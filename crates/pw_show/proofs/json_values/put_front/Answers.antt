use Rattle.std.proofs.Common.{◌++◌}
use Rattle.pw_text.proofs.Putting.{PutsText-stop, PutsText-then}
use Rattle.pw_show.proofs.json_values.put_front.Goals as goal

pub returns-in_err-put : goal.returns-in_err-put
returns-in_err-put g c =
    PutsText-stop (c.args.kind.now ++ c.args.key.now) c.from_residual.result c.from_residual.ensures.0 (rw c.comma.ensures at c.in_err-put.ensures)

pub returns-in_err-put-2 : goal.returns-in_err-put-2
returns-in_err-put-2 g c =
    PutsText-then (rw c.comma.ensures at c.in_ok-put.ensures)
    (PutsText-stop c.args.key.now c.from_residual-in_err-put-2.result c.from_residual-in_err-put-2.ensures.0 c.in_err-put-2.ensures)

pub returns : goal.returns
returns g c = PutsText-then (rw c.comma.ensures at c.in_ok-put.ensures) (PutsText-then c.in_ok-put-2.ensures c.put-3.ensures)
