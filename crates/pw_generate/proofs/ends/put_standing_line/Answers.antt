use Rattle.pw_text.proofs.Putting.{PutsText-stop, PutsText-then}
use Rattle.pw_generate.proofs.ends.put_standing_line.Goals as goal

pub returns-in_err-put : goal.returns-in_err-put
returns-in_err-put g c = PutsText-stop _ c.from_residual.result c.from_residual.ensures.0 c.in_err-put.ensures

pub returns-in_err-put_standings : goal.returns-in_err-put_standings
returns-in_err-put_standings g c = PutsText-then c.in_ok-put.ensures
    (PutsText-stop _ c.from_residual-in_err-put_standings.result c.from_residual-in_err-put_standings.ensures.0
    c.in_err-put_standings.ensures)

pub returns : goal.returns
returns g c = PutsText-then c.in_ok-put.ensures (PutsText-then c.in_ok-put_standings.ensures c.put-2.ensures)
