use Rattle.std.proofs.Common.{◌++◌, codes}
use Rattle.json.specs.Print.{escape}
use Rattle.pw_text.specs.Text.{segments_text}
use Rattle.pw_text.proofs.Putting.{PutsText-as, PutsText-stop, PutsText-then}
use Rattle.pw_show.proofs.Escapes.{place_in_pieces}
use Rattle.pw_show.proofs.json_paths.put_json_place.Goals as goal

pub returns-in_err-put : goal.returns-in_err-put
returns-in_err-put g c =
    PutsText-as _ (place_in_pieces c.args.segs.now)
    (PutsText-stop (escape (segments_text c.args.segs.now) ++ codes "\"") c.from_residual.result c.from_residual.ensures.0 c.in_err-put.ensures)

pub returns-in_err-put_segments : goal.returns-in_err-put_segments
returns-in_err-put_segments g c =
    PutsText-as _ (place_in_pieces c.args.segs.now)
    (PutsText-then c.in_ok-put.ensures
    (PutsText-stop (codes "\"") c.from_residual-in_err-put_segments.result c.from_residual-in_err-put_segments.ensures.0 c.in_err-put_segments.ensures))

pub returns : goal.returns
returns g c = PutsText-as _ (place_in_pieces c.args.segs.now) (PutsText-then c.in_ok-put.ensures (PutsText-then c.in_ok-put_segments.ensures c.put-2.ensures))
