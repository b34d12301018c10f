use Rattle.std.proofs.Common.{◌+◌, ◌-◌, ◌*◌, take}
use Rattle.std.specs.List.{AllByRecursion}
use Rattle.aml_block.specs.WrittenTerms.{IsWritableTerm}
use Rattle.aml_block.proofs.writable.+writable.Given as goal

abbrev pub decreases-is_writable_term : goal.decreases-is_writable_term
decreases-is_writable_term l = 2 * l.depth + 1

abbrev pub decreases-are_writable : goal.decreases-are_writable
decreases-are_writable l = 2 * l.depth

abbrev pub invariant-are_writable-loop-term : goal.invariant-are_writable-loop-term
invariant-are_writable-loop-term l = AllByRecursion (IsWritableTerm (l.depth - 1)) (take l.term-index l.terms)
