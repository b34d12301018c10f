use Rattle.std.proofs.Common.{◌≡◌, ◌-◌, drop, length, length-drop, subst, take, take_all, arith}
use Rattle.std.specs.List.{AllByRecursion}
use Rattle.aml_data.specs.Segment.{IsSegment}
use Rattle.pw_history.proofs.Each.{each_more, each_none}
use Rattle.pw_cppc_drive.specs.Telling.{IsOfSegments}
use Rattle.pw_cppc_drive.proofs.text_values.cppc_plans_have_segments.Goals as goal

pub loop-left-preserved : goal.loop-left-preserved
loop-left-preserved c =
    let left = c.loop-left.left.now in
    let some = c.in-len1-up.len_at_least in
    let few = length-drop 1 left in
    let rest : take (length left - 1) (drop 1 left) ≡ drop 1 left = take_all _ _ (omega arith) in
    λ a. c.loop-left.invariant (each_more IsOfSegments left _ some (subst IsOfSegments c.path-item.is (subst (AllByRecursion IsSegment) c.as_slice.ensures c.segments_known.ensures)) (rw rest at a))

pub returns : goal.returns
returns c = record { paths = c.loop-left.invariant (each_none IsOfSegments c.loop-left.left.now (omega arith)) }
