use Rattle.std.specs.List.{flat_map}
use Rattle.pw_text.proofs.Putting.{PutsText-as, PutsText-stop, PutsText-then}
use Rattle.pw_show.proofs.Escapes.{dotted, segments_escaped}
use Rattle.pw_show.proofs.json_paths.put_segments.Goals as goal

pub returns-in_err-put_seg-in-Some : goal.returns-in_err-put_seg-in-Some
returns-in_err-put_seg-in-Some g c =
    let first = c.in-Some.first.now in
    let rest = c.in-Some.rest.now in
    PutsText-as _ (segments_escaped c.args.segs.now rest first c.in-Some.ensures.cases.0)
    (PutsText-stop (flat_map dotted rest) c.from_residual.result c.from_residual.ensures.0 c.in_err-put_seg-in-Some.ensures)

pub returns-in_ok-put_seg-in-Some : goal.returns-in_ok-put_seg-in-Some
returns-in_ok-put_seg-in-Some g c =
    let first = c.in-Some.first.now in
    let rest = c.in-Some.rest.now in
    PutsText-as _ (segments_escaped c.args.segs.now rest first c.in-Some.ensures.cases.0)
    (PutsText-then c.in_ok-put_seg-in-Some.ensures c.put_behind_dots.ensures)
