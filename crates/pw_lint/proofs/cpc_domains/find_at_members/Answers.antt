use Rattle.pw_lint.specs.CpcDomains.{at_member}
use Rattle.pw_findings.proofs.Added.{added_number}
use Rattle.pw_lint.proofs.cpc_domains.find_at_members.Goals as goal

pub loop-k-preserved : goal.loop-k-preserved
loop-k-preserved c =
    added_number (at_member c.args.cpus.now c.args.members.now) c.loop-k.k c.args.found.now.items c.loop-k.found.items
    c.find_at_member.new.found.items c.loop-k.invariant c.in_ok-find_at_member.ensures
