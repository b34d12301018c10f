use Rattle.std.proofs.Common.{◌≡◌, drop}
use Rattle.std.specs.List.{list_all}
use Rattle.pw_plan.specs.Domains.{same_coord}
use Rattle.pw_cppc.specs.Domains.{shown}
use Rattle.pw_cppc.proofs.domains.share_coord.Given as goal

abbrev pub invariant-loop-member : goal.invariant-loop-member
invariant-loop-member l =
    list_all (λ p. same_coord (shown l.cpus p).coord l.coord) (drop l.member-index l.members)
    ≡ list_all (λ p. same_coord (shown l.cpus p).coord l.coord) l.members
