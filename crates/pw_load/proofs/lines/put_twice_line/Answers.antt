use Rattle.std.proofs.Common.{codes}
use Rattle.pw_text.specs.Text.{place_text}
use Rattle.pw_text.proofs.Putting.{PutsText-stop, PutsText-then, stop_at_first}
use Rattle.pw_load.proofs.lines.put_twice_line.Goals as goal

pub returns-in_err-put : goal.returns-in_err-put
returns-in_err-put g c = stop_at_first (place_text c.args.path.now) (codes " given twice\n") c.from_residual.result c.from_residual.ensures.0 c.in_err-put.ensures

pub returns-in_err-put_place : goal.returns-in_err-put_place
returns-in_err-put_place g c =
    PutsText-stop (codes " given twice\n") c.from_residual-in_err-put_place.result c.from_residual-in_err-put_place.ensures.0 (PutsText-then c.in_ok-put.ensures c.in_err-put_place.ensures)

pub returns : goal.returns
returns g c = PutsText-then (PutsText-then c.in_ok-put.ensures c.in_ok-put_place.ensures) c.put-2.ensures
