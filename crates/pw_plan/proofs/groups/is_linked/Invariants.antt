use Rattle.std.proofs.Common.{◌≡◌, drop}
use Rattle.pw_plan.specs.Groups.{is_linked}
use Rattle.pw_plan.proofs.groups.is_linked.Given as goal

abbrev pub invariant-loop-domain : goal.invariant-loop-domain
invariant-loop-domain l = is_linked (drop l.domain-index l.domains) l.cpu ≡ is_linked l.domains l.cpu
