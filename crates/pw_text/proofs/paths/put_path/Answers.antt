use Rattle.pw_text.specs.Text.{segments_text}
use Rattle.pw_text.proofs.Putting.{PutsText-stop, PutsText-then}
use Rattle.pw_text.proofs.paths.put_path.Goals as goal

pub returns-in_err-put_prefix : goal.returns-in_err-put_prefix
returns-in_err-put_prefix g c = PutsText-stop (segments_text c.args.path.now.segs) c.from_residual.result c.from_residual.ensures.0 c.in_err-put_prefix.ensures

pub returns : goal.returns
returns g c = PutsText-then c.in_ok-put_prefix.ensures (rw c.as_slice.ensures at c.put_segments.ensures)
