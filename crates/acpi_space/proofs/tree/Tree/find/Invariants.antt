use Rattle.std.proofs.Common.{take}
use Rattle.acpi_space.specs.inner.Trees.{IsAt}
use Rattle.acpi_space.proofs.tree.Tree.find.Given as goal

abbrev pub invariant-loop-seg : goal.invariant-loop-seg
invariant-loop-seg l = IsAt l.self l.here (take l.seg-index l.segs)
