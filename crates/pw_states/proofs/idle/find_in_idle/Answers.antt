use Rattle.pw_states.specs.Idle.{state_findings}
use Rattle.pw_findings.proofs.Added.{added_number}
use Rattle.pw_states.proofs.idle.find_in_idle.Goals as goal

pub loop-k-preserved : goal.loop-k-preserved
loop-k-preserved c =
    added_number (state_findings c.args.path.now c.args.table.now.kind c.states-rows.result.now) c.loop-k.k c.args.found.now.items c.loop-k.found.items
    c.find_in_state.new.found.items c.loop-k.invariant c.in_ok-find_in_state.ensures
