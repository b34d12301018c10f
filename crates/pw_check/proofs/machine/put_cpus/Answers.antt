use Rattle.std.proofs.Common.{◌+◌, ◌<◌, ◌≤◌, add-one, ap, arith, drop, length, take_all}
use Rattle.std.specs.List.{flat_map}
use Rattle.pw_text.proofs.Putting.{PutsText-as, PutsText-stop, PutsText-then}
use Rattle.pw_check.specs.CheckText.{cpu_line}
use Rattle.pw_text.proofs.Joined.{flat_map-in_parts, flat_map-take-suc}
use Rattle.pw_check.proofs.machine.put_cpus.Goals as goal

pub returns-in_err-put_cpu : goal.returns-in_err-put_cpu
returns-in_err-put_cpu g c =
    let all = c.args.cpus.now in
    let at = c.loop-cpu.cpu-index in
    let inside : at < length all = omega arith in
    let text = cpu_line c.args.containers.now in
    PutsText-as (flat_map text all) (flat_map-in_parts text at all c.cpu-item.result inside c.cpu-item.is)
    (PutsText-stop (flat_map text (drop (at + 1) all)) c.from_residual.result c.from_residual.ensures.0
    (PutsText-then c.loop-cpu.invariant c.in_err-put_cpu.ensures))

pub loop-cpu-preserved : goal.loop-cpu-preserved
loop-cpu-preserved g c =
    let all = c.args.cpus.now in
    let at = c.loop-cpu.cpu-index in
    let inside : at < length all = omega arith in
    let text = cpu_line c.args.containers.now in
    rw (add-one, flat_map-take-suc text at all c.cpu-item.result inside c.cpu-item.is)
    (PutsText-then c.loop-cpu.invariant c.in_ok-put_cpu.ensures)

pub returns : goal.returns
returns g c =
    let all = c.args.cpus.now in
    let at = c.loop-cpu.cpu-index in
    let past : length all ≤ at = omega arith in
    let text = cpu_line c.args.containers.now in
    PutsText-as (flat_map text all) (ap (flat_map text) (take_all at all past)) c.loop-cpu.invariant
