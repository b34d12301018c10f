use Rattle.pw_text.proofs.Putting.{PutsText-stop, PutsText-then}
use Rattle.pw_generate.proofs.ends.put_containers_line.Goals as goal

pub returns-in_err-put : goal.returns-in_err-put
returns-in_err-put g c = PutsText-stop _ c.from_residual.result c.from_residual.ensures.0 c.in_err-put.ensures

pub returns-in_err-put_states : goal.returns-in_err-put_states
returns-in_err-put_states g c = PutsText-then c.in_ok-put.ensures
    (PutsText-stop _ c.from_residual-in_err-put_states.result c.from_residual-in_err-put_states.ensures.0 c.in_err-put_states.ensures)

pub returns : goal.returns
returns g c = PutsText-then c.in_ok-put.ensures (PutsText-then c.in_ok-put_states.ensures c.put-2.ensures)
