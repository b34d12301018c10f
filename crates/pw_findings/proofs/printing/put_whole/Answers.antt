use Rattle.std.proofs.lemmas.List.{append-nil}
use Rattle.pw_text.proofs.Putting.{PutsText-as, PutsText-stop, PutsText-then}
use Rattle.pw_findings.specs.Words.{findings_text}
use Rattle.pw_findings.proofs.printing.put_whole.Goals as goal

pub returns-in_err-put_findings-clause-text : goal.returns-in_err-put_findings-clause-text
unfolding findings_text
returns-in_err-put_findings-clause-text g c = PutsText-stop _ c.from_residual.result c.from_residual.ensures.0 c.in_err-put_findings.ensures

pub returns-in_err-put_finding_count-clause-text : goal.returns-in_err-put_finding_count-clause-text
unfolding findings_text
returns-in_err-put_finding_count-clause-text g c = PutsText-then c.in_ok-put_findings.ensures
    (PutsText-as _ (append-nil _) (PutsText-stop _ c.from_residual-in_err-put_finding_count.result c.from_residual-in_err-put_finding_count.ensures.0 c.in_err-put_finding_count.ensures))

pub returns-clause-text : goal.returns-clause-text
unfolding findings_text
returns-clause-text g c = PutsText-then c.in_ok-put_findings.ensures
    (PutsText-as _ (append-nil _) (PutsText-then c.in_ok-put_finding_count.ensures c.flush.ensures.puts))
