use Rattle.pw_lint.specs.Devices.{twin_at}
use Rattle.pw_findings.proofs.Added.{added_number}
use Rattle.pw_lint.proofs.devices.find_all_twins.Goals as goal

pub loop-k-preserved : goal.loop-k-preserved
loop-k-preserved c =
    added_number (twin_at c.args.cpus.now c.args.uids.now) c.loop-k.k c.args.found.now.items c.loop-k.found.items
    c.find_twin.new.found.items c.loop-k.invariant c.in_ok-find_twin.ensures
