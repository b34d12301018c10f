use Rattle.std.proofs.Common.{◌≡◌, map, take}
use Rattle.pw_domain.proofs.group.zeros.Given as goal

abbrev pub invariant-loop-member : goal.invariant-loop-member
invariant-loop-member l = l.states.items ≡ map (λ p. 0) (take l._member-index l.members)
