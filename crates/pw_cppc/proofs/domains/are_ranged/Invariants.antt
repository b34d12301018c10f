use Rattle.std.proofs.Common.{◌≡◌, drop}
use Rattle.std.specs.List.{list_all}
use Rattle.pw_cppc.specs.Parts.{is_ranged, parts_in}
use Rattle.pw_cppc.proofs.domains.are_ranged.Given as goal

abbrev pub invariant-loop-member : goal.invariant-loop-member
invariant-loop-member l =
    list_all (λ p. is_ranged (parts_in l.cpus p)) (drop l.member-index l.members)
    ≡ list_all (λ p. is_ranged (parts_in l.cpus p)) l.members
