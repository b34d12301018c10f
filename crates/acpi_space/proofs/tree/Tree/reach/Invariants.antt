use Rattle.std.proofs.Common.{◌++◌, [], take, get_or}
use Rattle.acpi_space.specs.inner.Trees.{Reaches}
use Rattle.acpi_space.proofs.tree.Tree.reach.Given as goal

abbrev pub invariant-loop-seg : goal.invariant-loop-seg
invariant-loop-seg l = Reaches l.fn.self l.self l.here (get_or l.fn.self l.at [] ++ take l.seg-index l.segs)
