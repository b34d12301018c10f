use Rattle.std.proofs.Common.{◌≡◌, ◌+◌, ◌*◌, ◌≤◌, length}
use Rattle.aml_data.specs.inner.ReadingObjects.{elements_at, object_within}
use Rattle.aml_data.proofs.ElementLoop.{with_elements}
use Rattle.aml_data.proofs.object.+objects.Given as goal

abbrev pub decreases-package_of : goal.decreases-package_of
decreases-package_of l = 3 * l.depth + 1

abbrev pub decreases-var_package_of : goal.decreases-var_package_of
decreases-var_package_of l = 3 * l.depth + 1

abbrev pub decreases-object_within : goal.decreases-object_within
decreases-object_within l = 3 * l.depth + 2

abbrev pub decreases-elements_of : goal.decreases-elements_of
decreases-elements_of l = 3 * l.depth + 3

abbrev pub invariant-elements_of-loop-rest : goal.invariant-elements_of-loop-rest
invariant-elements_of-loop-rest l = record {
  so_far : with_elements l.elements.items (elements_at (object_within l.depth) l.left l.end l.rest) ≡ elements_at (object_within l.depth) l.count l.end l.bytes;
  within : length l.rest ≤ l.end;
}

abbrev pub decreases-elements_of-loop-rest : goal.decreases-elements_of-loop-rest
decreases-elements_of-loop-rest l = length l.rest
