use Rattle.std.proofs.Common.{◌≡◌, ◌-◌, drop, length, length-drop, subst, take, take_all, arith}
use Rattle.aml_data.specs.Segment.{IsSegment}
use Rattle.pw_history.proofs.Each.{each_more, each_none}
use Rattle.pw_history.proofs.segments.segments_known.Goals as goal

pub loop-left-preserved : goal.loop-left-preserved
loop-left-preserved c =
    let left = c.loop-left.left.now in
    let some = c.in-len1-up.len_at_least in
    let few = length-drop 1 left in
    let rest : take (length left - 1) (drop 1 left) ≡ drop 1 left = take_all _ _ (omega arith) in
    λ a. c.loop-left.invariant (each_more IsSegment left _ some (subst IsSegment c.seg-item.is c.bytes-bytes.ensures.segment) (rw rest at a))

pub returns : goal.returns
returns c = c.loop-left.invariant (each_none IsSegment c.loop-left.left.now (omega arith))
