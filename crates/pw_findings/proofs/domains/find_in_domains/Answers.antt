use Rattle.std.proofs.Common.{◌<◌, arith, length}
use Rattle.pw_findings.specs.Domains.{domain_findings}
use Rattle.pw_findings.proofs.Added.{added_item}
use Rattle.pw_findings.proofs.domains.find_in_domains.Goals as goal

pub loop-domain-preserved : goal.loop-domain-preserved
loop-domain-preserved c =
    let all = c.args.domains.now in
    let at = c.loop-domain.domain-index in
    let inside : at < length all = omega arith in
    added_item (domain_findings c.args.cpus.now) at all c.domain-item.result c.args.found.now.items c.loop-domain.found.items
    c.find_in_domain.new.found.items inside c.domain-item.is c.loop-domain.invariant c.in_ok-find_in_domain.ensures
