use Rattle.pw_text.proofs.Putting.{PutsText-stop, PutsText-then}
use Rattle.pw_check.proofs.Fed.{PutsLine}
use Rattle.pw_check.proofs.domains.put_domain.Goals as goal

pub returns-in_err-put_count : goal.returns-in_err-put_count
returns-in_err-put_count g c = PutsLine _ (PutsText-stop _ c.from_residual.result c.from_residual.ensures.0 c.in_err-put_count.ensures)

pub returns-in_err-put_word : goal.returns-in_err-put_word
returns-in_err-put_word g c = PutsLine _ (PutsText-then c.in_ok-put_count.ensures (PutsText-stop _ c.from_residual-in_err-put_word.result c.from_residual-in_err-put_word.ensures.0
    (rw c.kind_name.ensures at c.in_err-put_word.ensures)))

pub returns-in_err-put_domain_number : goal.returns-in_err-put_domain_number
returns-in_err-put_domain_number g c =
    PutsLine _ (PutsText-then c.in_ok-put_count.ensures (PutsText-then (rw c.kind_name.ensures at c.in_ok-put_word.ensures)
    (PutsText-stop _ c.from_residual-in_err-put_domain_number.result c.from_residual-in_err-put_domain_number.ensures.0 c.in_err-put_domain_number.ensures)))

pub returns-in_err-put_word-2 : goal.returns-in_err-put_word-2
returns-in_err-put_word-2 g c = PutsLine _ (PutsText-then c.in_ok-put_count.ensures (PutsText-then (rw c.kind_name.ensures at c.in_ok-put_word.ensures) (PutsText-then c.in_ok-put_domain_number.ensures
    (PutsText-stop _ c.from_residual-in_err-put_word-2.result c.from_residual-in_err-put_word-2.ensures.0 (rw c.coord_name.ensures at c.in_err-put_word-2.ensures)))))

pub returns-in_err-put_count-2 : goal.returns-in_err-put_count-2
returns-in_err-put_count-2 g c =
    PutsLine _ (PutsText-then c.in_ok-put_count.ensures (PutsText-then (rw c.kind_name.ensures at c.in_ok-put_word.ensures) (PutsText-then c.in_ok-put_domain_number.ensures
    (PutsText-then (rw c.coord_name.ensures at c.in_ok-put_word-2.ensures) (PutsText-stop _ c.from_residual-in_err-put_count-2.result c.from_residual-in_err-put_count-2.ensures.0
    (rw c.as_slice.ensures at c.in_err-put_count-2.ensures))))))

pub returns-in_err-put_fit : goal.returns-in_err-put_fit
returns-in_err-put_fit g c = PutsLine _ (PutsText-then c.in_ok-put_count.ensures (PutsText-then (rw c.kind_name.ensures at c.in_ok-put_word.ensures) (PutsText-then c.in_ok-put_domain_number.ensures
    (PutsText-then (rw c.coord_name.ensures at c.in_ok-put_word-2.ensures) (PutsText-then (rw c.as_slice.ensures at c.in_ok-put_count-2.ensures)
    (PutsText-stop _ c.from_residual-in_err-put_fit.result c.from_residual-in_err-put_fit.ensures.0 c.in_err-put_fit.ensures))))))

pub returns : goal.returns
returns g c = PutsLine _ (PutsText-then c.in_ok-put_count.ensures (PutsText-then (rw c.kind_name.ensures at c.in_ok-put_word.ensures) (PutsText-then c.in_ok-put_domain_number.ensures
    (PutsText-then (rw c.coord_name.ensures at c.in_ok-put_word-2.ensures) (PutsText-then (rw c.as_slice.ensures at c.in_ok-put_count-2.ensures)
    (PutsText-then c.in_ok-put_fit.ensures c.put.ensures))))))
