use Rattle.aml_data.proofs.Room.{segment_fits}
use Rattle.aml_data.proofs.filling.fill_segments.Goals as goal

pub fill-start-requires-clause-fits : goal.fill-start-requires-clause-fits
fill-start-requires-clause-fits c =
    let filled = c.loop-left.invariant.filled in
    rw c.bytes-bytes.ensures.value
    (segment_fits c.args.segs.now c.loop-left.left c.loop-left.start c.args.end c.index-segs-left.result c.loop-left-test.true c.loop-left.invariant.inside c.index-segs-left.is
    filled.reach c.requires.fits)
