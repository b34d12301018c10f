use Rattle.std.proofs.Common.{◌≡◌, take}
use Rattle.aml_data.proofs.data.+copy.Given as goal

abbrev pub invariant-copy_elements-loop-element : goal.invariant-copy_elements-loop-element
invariant-copy_elements-loop-element l = l.copies.items ≡ take l.element-index l.elements
