use Rattle.std.proofs.Common.{◌<◌, ◌+◌, ◌++◌, [], length, take, get_or, arith}
use Rattle.acpi_space.proofs.Trees.{reached_on, one_more}
use Rattle.acpi_space.proofs.tree.Tree.reach.Goals as goal

pub loop-seg-preserved : goal.loop-seg-preserved
loop-seg-preserved c =
    let base = get_or c.args.self.now c.args.at [] in
    let segs = c.args.segs.now in
    let i = c.loop-seg.seg-index in
    let inside : i < length segs = omega arith in
    reached_on c.args.self.now c.loop-seg.self c.step.new.self c.loop-seg.here c.in_ok-here.here (base ++ take i segs)
    (base ++ take (i + 1) segs) c.seg-item.result c.loop-seg.invariant c.in_ok-here.ensures
    (one_more base segs i c.seg-item.result inside c.seg-item.is)
