use Rattle.pw_text.proofs.Putting.{PutsText-stop, PutsText-then}
use Rattle.pw_findings.proofs.putting.put_state.Goals as goal

pub returns-in_err-put : goal.returns-in_err-put
returns-in_err-put g c = PutsText-stop _ c.from_residual.result c.from_residual.ensures.0 (rw c.states_name.ensures at c.in_err-put.ensures)

pub returns : goal.returns
returns g c = PutsText-then (rw c.states_name.ensures at c.in_ok-put.ensures) c.put_labelled.ensures
