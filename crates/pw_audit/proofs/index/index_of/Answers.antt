use Rattle.std.proofs.Common.{◌∙◌, ◌∷◌, [], arith}
use Rattle.pw_audit.proofs.Leading.{leads_on}
use Rattle.pw_audit.proofs.index.index_of.Goals as goal

pub loop-number-preserved : goal.loop-number-preserved
loop-number-preserved c =
    let w = c.loop-number.invariant.within in
    record {
      within = omega arith;
      leads = leads_on c.args.paths.now c.loop-number.number (92 ∷ []) c.in_ok-key.key c.loop-number.index c.insert.new.self c.loop-number-test.true w
          (c.in_ok-key.ensures.items ∙ c.path.ensures) c.loop-number.invariant.leads c.in_ok-insert.ensures.updates.0;
    }
