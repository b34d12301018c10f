use Rattle.std.proofs.Common.{◌≡◌, ◌==◌, drop}
use Rattle.std.specs.List.{list_all}
use Rattle.pw_cppc.specs.Domains.{shown}
use Rattle.pw_cppc.proofs.domains.share_number.Given as goal

abbrev pub invariant-loop-member : goal.invariant-loop-member
invariant-loop-member l =
    list_all (λ p. (shown l.cpus p).processors == l.processors) (drop l.member-index l.members)
    ≡ list_all (λ p. (shown l.cpus p).processors == l.processors) l.members
