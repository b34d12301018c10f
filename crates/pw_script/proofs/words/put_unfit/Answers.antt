use Rattle.pw_text.proofs.Putting.{PutsText-stop, PutsText-then}
use Rattle.pw_script.proofs.words.put_unfit.Goals as goal

pub returns-in_err-put_labelled : goal.returns-in_err-put_labelled
returns-in_err-put_labelled g c = PutsText-stop _ c.from_residual.result c.from_residual.ensures.0 c.in_err-put_labelled.ensures

pub returns : goal.returns
returns g c = PutsText-then c.in_ok-put_labelled.ensures (rw c.from.ensures at c.put_labelled-2.ensures)
