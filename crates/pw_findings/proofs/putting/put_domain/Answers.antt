use Rattle.pw_text.proofs.Putting.{PutsText-stop, PutsText-then}
use Rattle.pw_findings.proofs.putting.put_domain.Goals as goal

pub returns-in_err-put_domain_number : goal.returns-in_err-put_domain_number
returns-in_err-put_domain_number g c = PutsText-stop _ c.from_residual.result c.from_residual.ensures.0 c.in_err-put_domain_number.ensures

pub returns : goal.returns
returns g c = PutsText-then c.in_ok-put_domain_number.ensures c.put_shared.ensures
