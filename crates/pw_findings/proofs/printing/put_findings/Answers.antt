use Rattle.std.proofs.Common.{◌+◌, ◌<◌, ◌≤◌, add-one, ap, arith, drop, length, take_all}
use Rattle.std.specs.List.{flat_map}
use Rattle.pw_text.proofs.Putting.{PutsText-as, PutsText-stop, PutsText-then}
use Rattle.pw_findings.specs.Words.{finding_line}
use Rattle.pw_text.proofs.Joined.{flat_map-in_parts, flat_map-take-suc}
use Rattle.pw_findings.proofs.printing.put_findings.Goals as goal

pub returns-in_err-put_finding : goal.returns-in_err-put_finding
returns-in_err-put_finding g c =
    let all = c.args.findings.now in
    let at = c.loop-finding.finding-index in
    let inside : at < length all = omega arith in
    let text = finding_line in
    PutsText-as (flat_map text all) (flat_map-in_parts text at all c.finding-item.result inside c.finding-item.is)
    (PutsText-stop (flat_map text (drop (at + 1) all)) c.from_residual.result c.from_residual.ensures.0
    (PutsText-then c.loop-finding.invariant c.in_err-put_finding.ensures))

pub loop-finding-preserved : goal.loop-finding-preserved
loop-finding-preserved g c =
    let all = c.args.findings.now in
    let at = c.loop-finding.finding-index in
    let inside : at < length all = omega arith in
    let text = finding_line in
    rw (add-one, flat_map-take-suc text at all c.finding-item.result inside c.finding-item.is)
    (PutsText-then c.loop-finding.invariant c.in_ok-put_finding.ensures)

pub returns : goal.returns
returns g c =
    let all = c.args.findings.now in
    let at = c.loop-finding.finding-index in
    let past : length all ≤ at = omega arith in
    let text = finding_line in
    PutsText-as (flat_map text all) (ap (flat_map text) (take_all at all past)) c.loop-finding.invariant
