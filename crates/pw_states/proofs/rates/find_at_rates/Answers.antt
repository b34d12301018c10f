use Rattle.pw_findings.specs.Scales.{rate_at}
use Rattle.pw_findings.proofs.Added.{added_number}
use Rattle.pw_states.proofs.rates.find_at_rates.Goals as goal

pub loop-k-preserved : goal.loop-k-preserved
loop-k-preserved c =
    added_number (rate_at c.args.kind c.args.path.now c.args.rates.now) c.loop-k.k c.args.found.now.items c.loop-k.found.items
    c.find_at_rate.new.found.items c.loop-k.invariant c.in_ok-find_at_rate.ensures
