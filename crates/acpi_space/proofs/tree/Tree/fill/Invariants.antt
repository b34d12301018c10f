use Rattle.std.proofs.Common.{◌≡◌, ◌<◌, ◌++◌, [], length, get_or, reverse}
use Rattle.acpi_space.proofs.tree.Tree.fill.Given as goal

abbrev pub invariant-loop-above : goal.invariant-loop-above
invariant-loop-above l = (l.here < length l.self) × (get_or l.self l.here [] ++ reverse l.path.elements ≡ get_or l.self l.at []) × (l.path.capacity ≡ l.initial.path.capacity)

abbrev pub decreases-loop-above : goal.decreases-loop-above
decreases-loop-above l = l.here
