use Rattle.pw_states.specs.Parents.{sum_at}
use Rattle.pw_findings.proofs.Added.{added_number}
use Rattle.pw_states.proofs.parents.find_all_overflows.Goals as goal

pub loop-k-preserved : goal.loop-k-preserved
loop-k-preserved c =
    added_number (sum_at c.args.path.now c.args.container.now c.args.rows.now) c.loop-k.k c.args.found.now.items c.loop-k.found.items
    c.find_overflow.new.found.items c.loop-k.invariant c.in_ok-find_overflow.ensures
