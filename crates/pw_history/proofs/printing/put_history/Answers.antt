use Rattle.pw_text.proofs.Putting.{PutsText-as, PutsText-stop, PutsText-then}
use Rattle.pw_history.proofs.Printed.{whole_text}
use Rattle.pw_history.proofs.printing.put_history.Goals as goal

pub returns-in_err-put_opening-clause-text : goal.returns-in_err-put_opening-clause-text
returns-in_err-put_opening-clause-text g c =
    PutsText-as _ (whole_text g.T.Kind.words c.args.held.now.named.plan.now c.args.opening c.args.entries.now)
    (PutsText-stop _ c.from_residual.result c.from_residual.ensures.0 c.in_err-put_opening.ensures)

pub returns-in_err-put_entries-clause-text : goal.returns-in_err-put_entries-clause-text
returns-in_err-put_entries-clause-text g c =
    PutsText-as _ (whole_text g.T.Kind.words c.args.held.now.named.plan.now c.args.opening c.args.entries.now) (PutsText-then c.in_ok-put_opening.ensures
    (PutsText-stop _ c.from_residual-in_err-put_entries.result c.from_residual-in_err-put_entries.ensures.0 c.in_err-put_entries.ensures))

pub returns-clause-text : goal.returns-clause-text
returns-clause-text g c =
    PutsText-as _ (whole_text g.T.Kind.words c.args.held.now.named.plan.now c.args.opening c.args.entries.now) (PutsText-then c.in_ok-put_opening.ensures
    (PutsText-then c.in_ok-put_entries.ensures c.flush.ensures.puts))
