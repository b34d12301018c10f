use Rattle.std.proofs.Common.{◌++◌, codes}
use Rattle.json.specs.Print.{escape}
use Rattle.pw_text.specs.Text.{path_prefix, segments_text}
use Rattle.pw_text.proofs.Putting.{PutsText-as, PutsText-stop, PutsText-then}
use Rattle.pw_show.proofs.Escapes.{path_in_pieces}
use Rattle.pw_show.proofs.json_paths.put_json_path.Goals as goal

pub returns-in_err-put_prefix : goal.returns-in_err-put_prefix
returns-in_err-put_prefix g c =
    let path = c.args.path.now in
    PutsText-as _ (path_in_pieces (path_prefix path) (segments_text path.segs))
    (PutsText-stop (escape (segments_text path.segs) ++ codes "\"") c.from_residual.result c.from_residual.ensures.0 c.in_err-put_prefix.ensures)

pub returns-in_err-put_segments : goal.returns-in_err-put_segments
returns-in_err-put_segments g c =
    let path = c.args.path.now in
    PutsText-as _ (path_in_pieces (path_prefix path) (segments_text path.segs))
    (PutsText-then c.in_ok-put_prefix.ensures
    (PutsText-stop (codes "\"") c.from_residual-in_err-put_segments.result c.from_residual-in_err-put_segments.ensures.0
    (rw c.as_slice.ensures at c.in_err-put_segments.ensures)))

pub returns : goal.returns
returns g c =
    let path = c.args.path.now in
    PutsText-as _ (path_in_pieces (path_prefix path) (segments_text path.segs))
    (PutsText-then c.in_ok-put_prefix.ensures (PutsText-then (rw c.as_slice.ensures at c.in_ok-put_segments.ensures) c.put.ensures))
