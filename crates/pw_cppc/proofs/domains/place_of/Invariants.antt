use Rattle.std.proofs.Common.{◌≡◌, ◌+◌, drop}
use Rattle.std.specs.List.{position_or_len}
use Rattle.pw_cppc.specs.Sound.{covers}
use Rattle.pw_cppc.proofs.domains.place_of.Given as goal

abbrev pub invariant-loop-place : goal.invariant-loop-place
invariant-loop-place l = l.place + position_or_len (covers l.cpu) (drop l.place l.domains) ≡ position_or_len (covers l.cpu) l.domains
