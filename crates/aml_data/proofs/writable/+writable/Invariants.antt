use Rattle.std.proofs.Common.{◌+◌, ◌-◌, ◌*◌, take}
use Rattle.std.specs.List.{AllByRecursion}
use Rattle.aml_data.specs.Written.{IsWritableWithin}
use Rattle.aml_data.proofs.writable.+writable.Given as goal

abbrev pub decreases-is_within : goal.decreases-is_within
decreases-is_within l = 2 * l.depth + 1

abbrev pub decreases-are_elements : goal.decreases-are_elements
decreases-are_elements l = 2 * l.depth

abbrev pub invariant-are_elements-loop-element : goal.invariant-are_elements-loop-element
invariant-are_elements-loop-element l = AllByRecursion (IsWritableWithin (l.depth - 1)) (take l.element-index l.elements)
