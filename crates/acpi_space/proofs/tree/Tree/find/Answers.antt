use Rattle.std.proofs.Common.{◌<◌, length, arith}
use Rattle.acpi_space.proofs.Trees.{not_below}
use Rattle.acpi_space.proofs.tree.Tree.find.Goals as goal

pub returns-in-None : goal.returns-in-None
returns-in-None c =
    let inside : c.loop-seg.seg-index < length c.args.segs.now = omega arith in
    not_below c.args.self.now c.args.segs.now c.loop-seg.here c.loop-seg.seg-index c.seg-item.result c.facts.ensures.closed c.loop-seg.invariant inside c.seg-item.is c.in-None.ensures
