use Rattle.std.proofs.Common.{◌∙◌, ℕ, subst, arith}
use Rattle.std.proofs.lemmas.Result.{err_from_is_err_and}
use Rattle.pw_text.specs.HistoryText.{op_line_by}
use Rattle.pw_text.specs.Paths.{text_at}
use Rattle.pw_audit.specs.inner.Stopping.{MissesLine}
use Rattle.pw_audit.proofs.Passing.{passed_on, shorter_on, stops_at}
use Rattle.pw_audit.proofs.matching.pass_ops.Goals as goal

pub returns-in_err-rest-clause-stops : goal.returns-in_err-rest-clause-stops
returns-in_err-rest-clause-stops c =
    let p = err_from_is_err_and c.from_residual-in_err-rest.result c.from_residual-in_err-rest.ensures.1 in
    let f = op_line_by (text_at c.args.paths.now) in
    let k = c.loop-op.op-index in
    let line = c.as_slice.result.now in
    let put = rw c.clear.ensures.items at c.in_ok-push_op_line.ensures in
    let whole = c.as_slice.ensures.value ∙ put in
    let missed = subst (λ (n : ℕ). MissesLine line n c.loop-op.rest.now c.in_err-rest.field-0.0) c.loop-op.invariant.passed c.in_err-rest.ensures.stops in
    rw (p.1, p.2) (stops_at f c.args.before k c.args.ops.now _ c.args.left.now c.loop-op.rest.now line c.in_err-rest.field-0.0 c.loop-op-test.true c.loop-op.invariant.text whole missed)

pub overflow_add-passed : goal.overflow_add-passed
overflow_add-passed c =
    let put = rw c.clear.ensures.items at c.in_ok-push_op_line.ensures in
    let whole = c.as_slice.ensures.value ∙ put in
    let less = shorter_on (op_line_by (text_at c.args.paths.now)) c.loop-op.op-index c.args.ops.now _ c.loop-op.rest.now c.in_ok-rest.rest.now c.as_slice.result.now whole c.in_ok-rest.ensures.ok in
    let short = c.loop-op.invariant.short in
    let bound = c.requires in
    omega arith

pub loop-op-preserved : goal.loop-op-preserved
loop-op-preserved c =
    let f = op_line_by (text_at c.args.paths.now) in
    let k = c.loop-op.op-index in
    let ops = c.args.ops.now in
    let rest = c.loop-op.rest.now in
    let next = c.in_ok-rest.rest.now in
    let line = c.as_slice.result.now in
    let put = rw c.clear.ensures.items at c.in_ok-push_op_line.ensures in
    let whole = c.as_slice.ensures.value ∙ put in
    let read = c.in_ok-rest.ensures.ok in
    let less = shorter_on f k ops _ rest next line whole read in
    let passed = c.loop-op.invariant.passed in
    let short = c.loop-op.invariant.short in
    record {
      passed = omega arith;
      text = passed_on f k ops _ c.args.left.now rest next line c.loop-op-test.true c.loop-op.invariant.text whole read;
      short = omega arith;
    }
