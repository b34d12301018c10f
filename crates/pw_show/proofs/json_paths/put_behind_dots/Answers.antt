use Rattle.std.proofs.Common.{◌<◌, length, arith}
use Rattle.pw_show.proofs.Chains.{each_more, each_stop}
use Rattle.pw_show.proofs.Escapes.{dotted}
use Rattle.pw_show.proofs.json_paths.put_behind_dots.Goals as goal

pub returns-in_err-put_behind_dot : goal.returns-in_err-put_behind_dot
returns-in_err-put_behind_dot g c =
    let segs = c.args.segs.now in
    let at = c.loop-seg.seg-index in
    let inside : at < length segs = omega arith in
    each_stop dotted segs at c.seg-item.result c.from_residual.result inside c.seg-item.is c.from_residual.ensures.0 c.loop-seg.invariant
    c.in_err-put_behind_dot.ensures

pub loop-seg-preserved : goal.loop-seg-preserved
loop-seg-preserved g c =
    let segs = c.args.segs.now in
    let at = c.loop-seg.seg-index in
    let inside : at < length segs = omega arith in
    each_more dotted segs at c.seg-item.result inside c.seg-item.is c.loop-seg.invariant c.in_ok-put_behind_dot.ensures
