use Rattle.std.proofs.Common.{[], get_or}
use Rattle.acpi_space.specs.inner.Trees.{IsLast}
use Rattle.acpi_space.proofs.Rising.{Sought}
use Rattle.acpi_space.proofs.tree.Tree.search.Given as goal

abbrev pub invariant-loop-found : goal.invariant-loop-found
invariant-loop-found l = record {
  sought : Sought l.self (get_or l.self l.scope []) l.seg l.here;
  last : IsLast l.self l.seg l.here l.found;
}

abbrev pub decreases-loop-found : goal.decreases-loop-found
decreases-loop-found l = l.here
