use Rattle.std.proofs.Common.{◌≡◌, ◌++◌, ◌-◌, map}
use Rattle.std.specs.List.{position, range_with_len}
use Rattle.pw_cppc.specs.Sound.{covers, places_of}
use Rattle.pw_cppc.proofs.domains.places_of.Given as goal

abbrev pub invariant-loop-cpu : goal.invariant-loop-cpu
invariant-loop-cpu l =
    l.places.items ++ map (λ p. position (covers p) l.domains) (range_with_len l.cpu (l.count - l.cpu)) ≡ places_of l.domains l.count
