use Rattle.std.proofs.Common.{◌<◌, arith, length}
use Rattle.pw_lint.specs.Machine.{cpu_findings}
use Rattle.pw_findings.proofs.Added.{added_item}
use Rattle.pw_lint.proofs.processors.find_in_cpus.Goals as goal

pub loop-cpu-preserved : goal.loop-cpu-preserved
loop-cpu-preserved c =
    let all = c.args.cpus.now in
    let at = c.loop-cpu.cpu-index in
    let inside : at < length all = omega arith in
    added_item (cpu_findings c.args.space.now c.args.containers.now c.args.cpus.now) at all c.cpu-item.result c.args.found.now.items c.loop-cpu.found.items
    c.find_in_cpu.new.found.items inside c.cpu-item.is c.loop-cpu.invariant c.in_ok-find_in_cpu.ensures
