use Rattle.std.proofs.Common.{◌++◌, [], List, take, get_or}
use Rattle.acpi_space.specs.Steps.{Step, steps_in}
use Rattle.acpi_space.specs.inner.Trees.{IsGrown}
use Rattle.acpi_space.specs.inner.Standing.{StandsIn}
use Rattle.acpi_space.proofs.terms.+terms.Given as goal

abbrev pub invariant-place_terms-loop-term : goal.invariant-place_terms-loop-term
invariant-place_terms-loop-term l = record {
  grown : IsGrown l.fn.building.tree l.building.tree;
  done : (before : List Step) → StandsIn l.fn.building before
      → StandsIn l.building (before ++ steps_in l.width (take l.term-index l.terms) (get_or l.fn.building.tree l.scope []) before);
}
