use Rattle.pw_states.specs.CStates.{c_state_findings}
use Rattle.pw_findings.proofs.Added.{added_number}
use Rattle.pw_states.proofs.c_states.find_in_cst.Goals as goal

pub loop-k-preserved : goal.loop-k-preserved
loop-k-preserved c =
    added_number (c_state_findings c.args.path.now c.args.states.now) c.loop-k.k c.args.found.now.items c.loop-k.found.items
    c.find_in_c_state.new.found.items c.loop-k.invariant c.in_ok-find_in_c_state.ensures
