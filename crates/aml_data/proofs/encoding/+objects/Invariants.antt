use Rattle.std.proofs.Common.{◌+◌, ◌*◌, ◌≤◌, length, map, drop}
use Rattle.aml_data.specs.Segment.{joined}
use Rattle.aml_data.specs.Written.{written}
use Rattle.aml_data.specs.inner.Filling.{Fills}
use Rattle.aml_data.proofs.encoding.+objects.Given as goal

abbrev pub decreases-fill_object : goal.decreases-fill_object
decreases-fill_object l = 3 * l.depth

abbrev pub decreases-fill_package : goal.decreases-fill_package
decreases-fill_package l = 3 * l.depth + 2

abbrev pub decreases-fill_var_package : goal.decreases-fill_var_package
decreases-fill_var_package l = 3 * l.depth + 2

abbrev pub decreases-fill_elements : goal.decreases-fill_elements
decreases-fill_elements l = 3 * l.depth + 1

abbrev pub invariant-fill_elements-loop-left : goal.invariant-fill_elements-loop-left
invariant-fill_elements-loop-left l = record {
  filled : Fills l.initial.room l.room l.start l.end (joined (map written (drop l.left l.elements)));
  inside : l.left ≤ length l.elements;
}

abbrev pub decreases-fill_elements-loop-left : goal.decreases-fill_elements-loop-left
decreases-fill_elements-loop-left l = l.left
