use Rattle.std.proofs.Common.{◌∷◌, ◌+◌, ◌<◌, ℕ, List, drop, length, add-one, arith}
use Rattle.std.specs.List.{flat_map}
use Rattle.pw_text.proofs.Joined.{flat_map-in_parts, flat_map-take-suc}
use Rattle.pw_text.proofs.Putting.{PutsText-as, PutsText-stop, PutsText-then}
use Rattle.pw_text.proofs.paths.put_behind_dots.Goals as goal

pub returns-in_err-put_behind : goal.returns-in_err-put_behind
returns-in_err-put_behind g c =
    let segs = c.args.segs.now in
    let at = c.loop-seg.seg-index in
    let inside : at < length segs = omega arith in
    let dotted = λ (seg : List ℕ). 46 ∷ seg in
    PutsText-as (flat_map dotted segs) (flat_map-in_parts dotted at segs c.seg-item.result inside c.seg-item.is)
    (PutsText-stop (flat_map dotted (drop (at + 1) segs)) c.from_residual.result c.from_residual.ensures.0
    (PutsText-then c.loop-seg.invariant c.in_err-put_behind.ensures))

pub loop-seg-preserved : goal.loop-seg-preserved
loop-seg-preserved g c =
    let segs = c.args.segs.now in
    let at = c.loop-seg.seg-index in
    let inside : at < length segs = omega arith in
    let dotted = λ (seg : List ℕ). 46 ∷ seg in
    rw (add-one, flat_map-take-suc dotted at segs c.seg-item.result inside c.seg-item.is)
    (PutsText-then c.loop-seg.invariant c.in_ok-put_behind.ensures)
