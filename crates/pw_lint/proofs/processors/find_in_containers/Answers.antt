use Rattle.std.proofs.Common.{◌<◌, arith, length}
use Rattle.pw_lint.specs.Machine.{container_findings}
use Rattle.pw_findings.proofs.Added.{added_item}
use Rattle.pw_lint.proofs.processors.find_in_containers.Goals as goal

pub loop-container-preserved : goal.loop-container-preserved
loop-container-preserved c =
    let all = c.args.containers.now in
    let at = c.loop-container.container-index in
    let inside : at < length all = omega arith in
    added_item (container_findings c.args.space.now c.args.containers.now) at all c.container-item.result c.args.found.now.items c.loop-container.found.items
    c.find_in_container.new.found.items inside c.container-item.is c.loop-container.invariant c.in_ok-find_in_container.ensures
