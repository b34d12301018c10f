use Rattle.std.proofs.Common.{◌≡◌, map, take}
use Rattle.pw_plan.specs.declared.parts.CpuParts.{CpuParts}
use Rattle.pw_lint.specs.CpcDomains.{member_of}
use Rattle.pw_lint.specs.Tables.{dependency}
use Rattle.pw_lint.proofs.cpc_domains.members_of.Given as goal

abbrev pub invariant-loop-cpu : goal.invariant-loop-cpu
invariant-loop-cpu l = l.members.items ≡ map (λ (c : CpuParts). member_of c.cpc (dependency l.space c.path)) (take l.cpu-index l.cpus)
