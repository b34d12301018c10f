use Rattle.std.proofs.Common.{◌≡◌, ◌++◌, take}
use Rattle.std.specs.List.{flat_map}
use Rattle.pw_findings.specs.Domains.{domain_findings}
use Rattle.pw_findings.proofs.domains.find_in_domains.Given as goal

abbrev pub invariant-loop-domain : goal.invariant-loop-domain
invariant-loop-domain l = l.found.items ≡ l.initial.found.items ++ flat_map (domain_findings l.cpus) (take l.domain-index l.domains)
