use Rattle.pw_text.proofs.Putting.{PutsText-as}
use Rattle.pw_show.proofs.Escapes.{dot_before}
use Rattle.pw_show.proofs.json_paths.put_behind_dot.Goals as goal

pub returns : goal.returns
returns g c = PutsText-as _ (dot_before c.bytes.result c.args.seg c.bytes.ensures.value c.bytes.ensures.segment) c.put.ensures
