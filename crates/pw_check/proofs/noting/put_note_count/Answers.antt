use Rattle.pw_text.proofs.Putting.{PutsText-stop, PutsText-then}
use Rattle.pw_check.proofs.Fed.{PutsLine}
use Rattle.pw_check.proofs.noting.put_note_count.Goals as goal

pub returns-in_err-put_count : goal.returns-in_err-put_count
returns-in_err-put_count g c = PutsLine _ (PutsText-stop _ c.from_residual.result c.from_residual.ensures.0 c.in_err-put_count.ensures)

pub returns : goal.returns
returns g c = PutsLine _ (PutsText-then c.in_ok-put_count.ensures c.put.ensures)
