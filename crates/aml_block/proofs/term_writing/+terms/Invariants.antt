use Rattle.std.proofs.Common.{◌+◌, ◌*◌, true, take}
use Rattle.aml_block.specs.inner.Appending.{Appends}
use Rattle.aml_block.specs.WrittenTerms.{written_terms}
use Rattle.aml_block.proofs.term_writing.+terms.Given as goal

abbrev pub decreases-put_holder : goal.decreases-put_holder
decreases-put_holder l = 4 * l.depth + 2

abbrev pub decreases-put_held : goal.decreases-put_held
decreases-put_held l = 4 * l.depth + 1

abbrev pub decreases-put_term : goal.decreases-put_term
decreases-put_term l = 4 * l.depth + 3

abbrev pub decreases-put_terms : goal.decreases-put_terms
decreases-put_terms l = 4 * l.depth

abbrev pub invariant-put_terms-loop-term : goal.invariant-put_terms-loop-term
invariant-put_terms-loop-term l = Appends l.initial.out.items l.out.items (written_terms (take l.term-index l.terms)) true
