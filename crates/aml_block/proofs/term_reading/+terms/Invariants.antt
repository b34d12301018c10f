use Rattle.std.proofs.Common.{◌≡◌, ◌+◌, ◌-◌, ◌*◌, ◌≤◌, length, vec_len}
use Rattle.aml_block.specs.inner.TermReading.{terms_by, terms_within, term_within}
use Rattle.aml_block.proofs.TermLoop.{with_terms}
use Rattle.aml_block.proofs.term_reading.+terms.Given as goal

abbrev pub decreases-read_holder : goal.decreases-read_holder
decreases-read_holder l = 4 * l.depth

abbrev pub decreases-read_behind : goal.decreases-read_behind
decreases-read_behind l = 4 * l.depth + 1

abbrev pub decreases-read_term : goal.decreases-read_term
decreases-read_term l = 4 * l.depth + 2

abbrev pub decreases-read_terms : goal.decreases-read_terms
decreases-read_terms l = 4 * l.depth + 3

abbrev pub invariant-read_terms-loop-rest : goal.invariant-read_terms-loop-rest
invariant-read_terms-loop-rest l = record {
  within : length l.rest ≤ l.end;
  room : vec_len l.terms + length l.rest ≤ length l.bytes;
  told : with_terms l.terms.items (terms_by (term_within l.depth) (length l.bytes - vec_len l.terms) l.end l.rest) ≡ terms_within l.depth l.end l.bytes;
}

abbrev pub decreases-read_terms-loop-rest : goal.decreases-read_terms-loop-rest
decreases-read_terms-loop-rest l = length l.rest
