use Rattle.pw_text.proofs.Putting.{PutsText-stop, PutsText-then}
use Rattle.pw_cppc_drive.proofs.words.put_range.Goals as goal

pub returns-in_err-put_performance : goal.returns-in_err-put_performance
returns-in_err-put_performance g c = PutsText-stop _ c.from_residual.result c.from_residual.ensures.0 c.in_err-put_performance.ensures

pub returns : goal.returns
returns g c = PutsText-then c.in_ok-put_performance.ensures c.put_performance-2.ensures
