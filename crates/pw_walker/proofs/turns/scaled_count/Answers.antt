use Rattle.std.proofs.Common.{◌∙◌, ap, arith, sym}
use Rattle.pw_plan.specs.Orderly.{is_scaled}
use Rattle.pw_walker.proofs.Scaled.{scaled_past}
use Rattle.pw_walker.proofs.turns.scaled_count.Goals as goal

pub loop-low-preserved : goal.loop-low-preserved
loop-low-preserved c =
    let l = c.loop-low in
    record {
      low = l.invariant.low;
      high = scaled_past c.args.plan.now _ (ap is_scaled (sym c.domain.ensures) ∙ sym c.is_scaled.ensures ∙ c.if-is_scaled.false);
      within = omega (arith, c.loop-low-test.true, l.invariant.within);
    }
