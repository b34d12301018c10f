use Rattle.std.proofs.Common.{◌≡◌, drop}
use Rattle.std.specs.List.{list_all}
use Rattle.pw_cppc.specs.Parts.{parts_in}
use Rattle.pw_cppc.specs.Domains.{same_range}
use Rattle.pw_cppc.proofs.domains.share_range.Given as goal

abbrev pub invariant-loop-member : goal.invariant-loop-member
invariant-loop-member l =
    list_all (λ p. same_range (parts_in l.cpus p) l.leader) (drop l.member-index l.members)
    ≡ list_all (λ p. same_range (parts_in l.cpus p) l.leader) l.members
