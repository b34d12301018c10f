use Rattle.std.proofs.Common.{◌≡◌, ◌<◌, ◌++◌, [], length, get_or, reverse}
use Rattle.acpi_space.proofs.tree.Tree.path.Given as goal

abbrev pub invariant-loop-above : goal.invariant-loop-above
invariant-loop-above l = record {
  inside : l.here < length l.self;
  whole : get_or l.self l.here [] ++ reverse l.segs.items ≡ get_or l.self l.at [];
}

abbrev pub decreases-loop-above : goal.decreases-loop-above
decreases-loop-above l = l.here
