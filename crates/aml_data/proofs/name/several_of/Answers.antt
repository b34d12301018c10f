use Rattle.std.proofs.Common.{arith}
use Rattle.std.proofs.lemmas.Result.{err_from_is_err_and}
use Rattle.aml_data.specs.inner.Reading.{several_at}
use Rattle.aml_data.proofs.SegmentLoop.{segments_go_on, segments_end}
use Rattle.aml_data.proofs.name.several_of.Goals as goal

pub returns-in_err-segment-clause-value : goal.returns-in_err-segment-clause-value
returns-in_err-segment-clause-value c =
    let p = err_from_is_err_and c.from_residual-in_err-segment.result c.from_residual-in_err-segment.ensures.1 in
    let all = several_at c.args.count c.args.end c.args.bytes.now in
    let ends = segments_end c.loop.segs.items c.args.end c.args.count c.loop.counter c.loop.rest.now c.in_err-segment.field-0.0 all in
    rw (p.1, p.2) (λ _. ends c.loop-test.true c.in_err-segment.ensures.value c.loop.invariant.so_far)

pub loop-preserved : goal.loop-preserved
loop-preserved c =
    let all = several_at c.args.count c.args.end c.args.bytes.now in
    let text = c.in_ok-segment.segment in
    let after = c.in_ok-segment.after.now in
    let more = segments_go_on c.loop.segs.items c.args.end c.args.count c.loop.counter c.loop.rest.now text after all in
    record {
      so_far = rw (c.in_ok-push.ensures.items, c.of_segment.ensures) (more c.loop-test.true c.in_ok-segment.ensures.value c.loop.invariant.so_far);
      within = let h = c.in_ok-segment.ensures.shorter in let w = c.loop.invariant.within in omega arith;
      shorter = let h = c.in_ok-segment.ensures.shorter in let w = c.loop.invariant.shorter in omega arith;
    }
