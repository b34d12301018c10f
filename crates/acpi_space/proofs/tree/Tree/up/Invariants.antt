use Rattle.std.proofs.Common.{◌≡◌, ◌<◌, [], length, get_or}
use Rattle.acpi_space.specs.Places.{up}
use Rattle.acpi_space.proofs.tree.Tree.up.Given as goal

abbrev pub invariant-loop-left : goal.invariant-loop-left
invariant-loop-left l = record {
  inside : l.here < length l.self;
  further : up l.left (get_or l.self l.here []) ≡ up l.steps (get_or l.self l.at []);
}

abbrev pub decreases-loop-left : goal.decreases-loop-left
decreases-loop-left l = l.left
