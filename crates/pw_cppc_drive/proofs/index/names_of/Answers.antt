use Rattle.std.proofs.Common.{arith}
use Rattle.pw_text.proofs.Leading.{leads_on}
use Rattle.pw_cppc_drive.specs.Forms.{segs_of}
use Rattle.pw_cppc_drive.proofs.index.names_of.Goals as goal

pub loop-number-preserved : goal.loop-number-preserved
loop-number-preserved c =
    let w = c.loop-number.invariant.within in
    let also = rw (c.index-paths-number.is, c.as_slice-paths.ensures) at c.in_ok-index_path.ensures in
    record {
      within = omega arith;
      leads = leads_on segs_of c.args.plan.now.paths c.loop-number.number c.index-paths-number.result c.loop-number.index c.index_path.new.index c.loop-number-test.true w c.loop-number.invariant.leads
          also;
    }
