use Rattle.std.proofs.lemmas.List.{append-nil}
use Rattle.pw_check.specs.CheckText.{check_text}
use Rattle.pw_text.proofs.Putting.{PutsText-as, PutsText-stop, PutsText-then}
use Rattle.pw_check.proofs.printing.put_whole.Goals as goal

pub returns-in_err-put_lines-clause-text : goal.returns-in_err-put_lines-clause-text
returns-in_err-put_lines-clause-text g c = PutsText-as _ (append-nil (check_text c.args.plan.now c.args.notes.now))
    (PutsText-stop _ c.from_residual.result c.from_residual.ensures.0 c.in_err-put_lines.ensures)

pub returns-clause-text : goal.returns-clause-text
returns-clause-text g c = PutsText-as _ (append-nil (check_text c.args.plan.now c.args.notes.now)) (PutsText-then c.in_ok-put_lines.ensures c.flush.ensures.puts)
