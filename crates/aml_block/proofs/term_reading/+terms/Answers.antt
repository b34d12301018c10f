use Rattle.std.proofs.Common.{◌≡◌, ◌-◌, suc, length, vec_len, arith}
use Rattle.std.proofs.lemmas.Result.{err_from_is_err_and}
use Rattle.aml_block.specs.inner.Fronts.{with_terms}
use Rattle.aml_block.specs.inner.TermReading.{term_within, terms_within}
use Rattle.aml_block.proofs.TermLoop.{not_empty, go_on, stop, holder_ends}
use Rattle.aml_block.proofs.term_reading.+terms.Goals as goal

pub read_terms-returns-in_err-term : goal.read_terms-returns-in_err-term
read_terms-returns-in_err-term t c =
    let p = err_from_is_err_and c.from_residual.result c.from_residual.ensures.1 in
    let read = term_within c.args.depth in
    let some = not_empty c.loop-rest.rest.now _ c.is_empty.ensures c.loop-rest-test.true in
    let s : length c.args.bytes.now - vec_len c.loop-rest.terms ≡ suc (length c.args.bytes.now - vec_len c.loop-rest.terms - 1) = omega (arith, c.loop-rest.invariant.room, some) in
    rw (p.1, p.2) (λ ne. stop read c.loop-rest.terms.items _ _ c.args.end c.loop-rest.rest.now _ (terms_within c.args.depth c.args.end c.args.bytes.now) some s
    (c.in_err-term.ensures.value ne) c.loop-rest.invariant.told)

pub read_terms-loop-rest-preserved : goal.read_terms-loop-rest-preserved
read_terms-loop-rest-preserved t c =
    let read = term_within c.args.depth in
    let some = not_empty c.loop-rest.rest.now _ c.is_empty.ensures c.loop-rest-test.true in
    let longer = c.in_ok-push.ensures.len in
    let shorter = c.in_ok-term.ensures.shorter in
    let s : length c.args.bytes.now - vec_len c.loop-rest.terms ≡ suc (length c.args.bytes.now - vec_len c.push.new.self) = omega (arith, c.loop-rest.invariant.room, some, longer) in
    record {
      within = omega (arith, c.loop-rest.invariant.within, shorter);
      room = omega (arith, c.loop-rest.invariant.room, some, longer, shorter);
      told = rw c.in_ok-push.ensures.items
          (go_on read c.loop-rest.terms.items _ _ c.args.end c.loop-rest.rest.now c.in_ok-term.after.now c.in_ok-term.term
          (terms_within c.args.depth c.args.end c.args.bytes.now) some s c.in_ok-term.ensures.value c.loop-rest.invariant.told);
    }

-- ---- a term in which a term fails

pub read_holder-returns-in_err-terms-clause-value : goal.read_holder-returns-in_err-terms-clause-value
read_holder-returns-in_err-terms-clause-value t c =
    let p = err_from_is_err_and c.from_residual-in_err-terms.result c.from_residual-in_err-terms.ensures.1 in
    let ends = holder_ends c.args.opcode c.args.depth c.args.at c.args.end c.args.bytes.now c.in_ok-inside.inside.now c.in_ok-inside.after.now c.in_ok-front.inside.now
    (with_terms c.in_ok-front.front) in
    rw (p.1, p.2) (λ other. ends c.in_err-terms.field-0.0 (omega arith) c.in_ok-inside.ensures.value c.in_ok-front.ensures.value (c.in_err-terms.ensures other))
