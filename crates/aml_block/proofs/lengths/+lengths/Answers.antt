use Rattle.std.proofs.Common.{◌-◌, ◌<◌, length, arith}
use Rattle.aml_data.proofs.WrittenLengths.{all_at}
use Rattle.aml_block.specs.WrittenTerms.{IsWritableTerm}
use Rattle.aml_block.proofs.WrittenTerms.{some_writable, are_each}
use Rattle.aml_block.proofs.TermLengths.{counted_on, counted_out}
use Rattle.aml_block.proofs.lengths.+lengths.Goals as goal

pub terms_len-overflow_sub-depth : goal.terms_len-overflow_sub-depth
terms_len-overflow_sub-depth t c = let some = some_writable c.args.depth c.args.terms.now c.requires in omega arith

pub terms_len-term_len-total-requires : goal.terms_len-term_len-total-requires
terms_len-term_len-total-requires t c =
    let terms = c.args.terms.now in
    let at = c.loop-term.term-index in
    let inside : at < length terms = omega arith in
    let some = some_writable c.args.depth terms c.requires in
    (omega arith, all_at (IsWritableTerm (c.args.depth - 1)) terms at c.term-item.result inside c.term-item.is (are_each c.args.depth terms c.requires))

pub terms_len-returns-then-total-ge-TOO_LONG : goal.terms_len-returns-then-total-ge-TOO_LONG
terms_len-returns-then-total-ge-TOO_LONG t c =
    let at = c.loop-term.term-index in
    let inside : at < length c.args.terms.now = omega arith in
    counted_out c.args.terms.now at c.loop-term.total c.term_len-total.result c.term-item.result inside c.term-item.is
    c.loop-term.invariant.so_far c.loop-term.invariant.short c.term_len-total.ensures c.if-total-ge-TOO_LONG.true

pub terms_len-loop-term-preserved : goal.terms_len-loop-term-preserved
terms_len-loop-term-preserved t c =
    let at = c.loop-term.term-index in
    let inside : at < length c.args.terms.now = omega arith in
    record {
      so_far = counted_on c.args.terms.now at c.loop-term.total c.term_len-total.result c.term-item.result inside c.term-item.is
          c.loop-term.invariant.so_far c.loop-term.invariant.short c.term_len-total.ensures c.if-total-ge-TOO_LONG.false;
      short = c.if-total-ge-TOO_LONG.false;
    }
