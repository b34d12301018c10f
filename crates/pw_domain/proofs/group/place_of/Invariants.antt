use Rattle.std.proofs.Common.{◌≡◌, ◌+◌, ◌==◌, drop}
use Rattle.std.specs.List.{position_or_len}
use Rattle.pw_domain.proofs.group.place_of.Given as goal

abbrev pub invariant-loop-place : goal.invariant-loop-place
invariant-loop-place l = l.place + position_or_len (λ q. q == l.cpu) (drop l.place l.members) ≡ position_or_len (λ q. q == l.cpu) l.members
