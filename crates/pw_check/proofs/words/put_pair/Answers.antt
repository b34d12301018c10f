use Rattle.std.proofs.Common.{◌∷◌, append_assoc, decimal}
use Rattle.pw_text.proofs.Putting.{PutsText-as, PutsText-stop, PutsText-then}
use Rattle.pw_check.proofs.words.put_pair.Goals as goal

pub returns-in_err-put_labelled : goal.returns-in_err-put_labelled
returns-in_err-put_labelled g c = PutsText-as _ (append_assoc c.args.label.now (decimal c.args.first) (46 ∷ decimal c.args.second))
    (PutsText-stop _ c.from_residual.result c.from_residual.ensures.0 c.in_err-put_labelled.ensures)

pub returns : goal.returns
returns g c = PutsText-as _ (append_assoc c.args.label.now (decimal c.args.first) (46 ∷ decimal c.args.second)) (PutsText-then c.in_ok-put_labelled.ensures c.put_labelled-2.ensures)
