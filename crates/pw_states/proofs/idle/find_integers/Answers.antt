use Rattle.pw_states.specs.Idle.{summed}
use Rattle.pw_findings.proofs.Added.{added_number}
use Rattle.pw_states.proofs.idle.find_integers.Goals as goal

pub loop-k-preserved : goal.loop-k-preserved
loop-k-preserved c =
    added_number (summed c.args.path.now c.states-rows.result.now) c.loop-k.k c.args.found.now.items c.loop-k.found.items
    c.find_summed.new.found.items c.loop-k.invariant c.in_ok-find_summed.ensures
