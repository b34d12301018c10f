use Rattle.pw_text.proofs.Putting.{PutsText-stop, PutsText-then}
use Rattle.pw_check.proofs.Fed.{PutsLine}
use Rattle.pw_check.proofs.refusing.put_limit.Goals as goal

pub returns-in_err-put : goal.returns-in_err-put
returns-in_err-put g c = PutsLine _ (PutsText-stop _ c.from_residual.result c.from_residual.ensures.0 c.in_err-put.ensures)

pub returns-in_err-put_word : goal.returns-in_err-put_word
returns-in_err-put_word g c = PutsLine _ (PutsText-then c.in_ok-put.ensures (PutsText-stop _ c.from_residual-in_err-put_word.result c.from_residual-in_err-put_word.ensures.0
    (rw c.limit_name.ensures at c.in_err-put_word.ensures)))

pub returns-in_err-put_labelled : goal.returns-in_err-put_labelled
returns-in_err-put_labelled g c =
    PutsLine _ (PutsText-then c.in_ok-put.ensures (PutsText-then (rw c.limit_name.ensures at c.in_ok-put_word.ensures)
    (PutsText-stop _ c.from_residual-in_err-put_labelled.result c.from_residual-in_err-put_labelled.ensures.0 c.in_err-put_labelled.ensures)))

pub returns : goal.returns
returns g c = PutsLine _ (PutsText-then c.in_ok-put.ensures (PutsText-then (rw c.limit_name.ensures at c.in_ok-put_word.ensures) (PutsText-then c.in_ok-put_labelled.ensures c.put-2.ensures)))
