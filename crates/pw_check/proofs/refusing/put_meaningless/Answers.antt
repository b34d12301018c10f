use Rattle.pw_text.proofs.Putting.{PutsText-stop, PutsText-then}
use Rattle.pw_check.proofs.Fed.{PutsLine}
use Rattle.pw_check.proofs.refusing.put_meaningless.Goals as goal

pub returns-in_err-put_named : goal.returns-in_err-put_named
returns-in_err-put_named g c = PutsLine _ (PutsText-stop _ c.from_residual.result c.from_residual.ensures.0 c.in_err-put_named.ensures)

pub returns-in_err-put_pair : goal.returns-in_err-put_pair
returns-in_err-put_pair g c = PutsLine _ (PutsText-then c.in_ok-put_named.ensures (PutsText-stop _ c.from_residual-in_err-put_pair.result c.from_residual-in_err-put_pair.ensures.0
    c.in_err-put_pair.ensures))

pub returns-in_err-put_word : goal.returns-in_err-put_word
returns-in_err-put_word g c =
    PutsLine _ (PutsText-then c.in_ok-put_named.ensures (PutsText-then c.in_ok-put_pair.ensures (PutsText-stop _ c.from_residual-in_err-put_word.result c.from_residual-in_err-put_word.ensures.0
    (rw c.why_name.ensures at c.in_err-put_word.ensures))))

pub returns : goal.returns
returns g c = PutsLine _ (PutsText-then c.in_ok-put_named.ensures (PutsText-then c.in_ok-put_pair.ensures (PutsText-then (rw c.why_name.ensures at c.in_ok-put_word.ensures) c.put.ensures)))
