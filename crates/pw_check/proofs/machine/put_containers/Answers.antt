use Rattle.std.proofs.Common.{◌+◌, ◌<◌, ◌≤◌, add-one, ap, arith, drop, length, take_all}
use Rattle.std.specs.List.{flat_map}
use Rattle.pw_text.proofs.Putting.{PutsText-as, PutsText-stop, PutsText-then}
use Rattle.pw_check.specs.CheckText.{container_line}
use Rattle.pw_text.proofs.Joined.{flat_map-in_parts, flat_map-take-suc}
use Rattle.pw_check.proofs.machine.put_containers.Goals as goal

pub returns-in_err-put_container : goal.returns-in_err-put_container
returns-in_err-put_container g c =
    let all = c.args.containers.now in
    let at = c.loop-container.container-index in
    let inside : at < length all = omega arith in
    let text = container_line c.args.containers.now in
    PutsText-as (flat_map text all) (flat_map-in_parts text at all c.container-item.result inside c.container-item.is)
    (PutsText-stop (flat_map text (drop (at + 1) all)) c.from_residual.result c.from_residual.ensures.0
    (PutsText-then c.loop-container.invariant c.in_err-put_container.ensures))

pub loop-container-preserved : goal.loop-container-preserved
loop-container-preserved g c =
    let all = c.args.containers.now in
    let at = c.loop-container.container-index in
    let inside : at < length all = omega arith in
    let text = container_line c.args.containers.now in
    rw (add-one, flat_map-take-suc text at all c.container-item.result inside c.container-item.is)
    (PutsText-then c.loop-container.invariant c.in_ok-put_container.ensures)

pub returns : goal.returns
returns g c =
    let all = c.args.containers.now in
    let at = c.loop-container.container-index in
    let past : length all ≤ at = omega arith in
    let text = container_line c.args.containers.now in
    PutsText-as (flat_map text all) (ap (flat_map text) (take_all at all past)) c.loop-container.invariant
