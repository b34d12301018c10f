use Rattle.std.proofs.Common.{◌≡◌, ◌+◌, ◌*◌, ◌<◌, ◌^◌, length, take}
use Rattle.aml_block.specs.WrittenTerms.{written_terms}
use Rattle.aml_block.proofs.lengths.+lengths.Given as goal

abbrev pub decreases-term_len : goal.decreases-term_len
decreases-term_len l = 2 * l.depth + 1

abbrev pub decreases-terms_len : goal.decreases-terms_len
decreases-terms_len l = 2 * l.depth

abbrev pub invariant-terms_len-loop-term : goal.invariant-terms_len-loop-term
invariant-terms_len-loop-term l = record {
  so_far : l.total ≡ length (written_terms (take l.term-index l.terms));
  short : l.total < 2 ^ 28;
}
