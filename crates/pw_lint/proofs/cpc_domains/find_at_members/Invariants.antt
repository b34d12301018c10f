use Rattle.std.proofs.Common.{◌≡◌, ◌++◌}
use Rattle.pw_findings.specs.Findings.{of_each}
use Rattle.pw_lint.specs.CpcDomains.{at_member}
use Rattle.pw_lint.proofs.cpc_domains.find_at_members.Given as goal

abbrev pub invariant-loop-k : goal.invariant-loop-k
invariant-loop-k l = l.found.items ≡ l.initial.found.items ++ of_each l.k (at_member l.cpus l.members)
