use Rattle.pw_text.proofs.Putting.{PutsText-stop, PutsText-then}
use Rattle.pw_check.proofs.Fed.{PutsLine}
use Rattle.pw_check.proofs.noting.put_note.Goals as goal

pub returns-in_err-put_named : goal.returns-in_err-put_named
returns-in_err-put_named g c = PutsLine _ (PutsText-stop _ c.from_residual.result c.from_residual.ensures.0 (rw c.as_slice.ensures at c.in_err-put_named.ensures))

pub returns-in_err-put_note_text : goal.returns-in_err-put_note_text
returns-in_err-put_note_text g c =
    PutsLine _ (PutsText-then (rw c.as_slice.ensures at c.in_ok-put_named.ensures) (PutsText-stop _ c.from_residual-in_err-put_note_text.result c.from_residual-in_err-put_note_text.ensures.0
    c.in_err-put_note_text.ensures))

pub returns : goal.returns
returns g c = PutsLine _ (PutsText-then (rw c.as_slice.ensures at c.in_ok-put_named.ensures) (PutsText-then c.in_ok-put_note_text.ensures c.put.ensures))
