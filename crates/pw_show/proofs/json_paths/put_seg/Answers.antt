use Rattle.std.proofs.Common.{◌∙◌, sym}
use Rattle.pw_text.proofs.Putting.{PutsText-as}
use Rattle.pw_show.proofs.Escapes.{escape_segment}
use Rattle.pw_show.proofs.json_paths.put_seg.Goals as goal

pub returns : goal.returns
returns g c = PutsText-as _ (c.bytes.ensures.value ∙ sym (escape_segment c.args.seg c.bytes.ensures.segment)) c.put.ensures
