use Rattle.std.proofs.Common.{◌≡◌, ◌++◌, ◌-◌, map}
use Rattle.std.specs.List.{range_with_len}
use Rattle.pw_generate.specs.Machines.{container_term}
use Rattle.pw_generate.proofs.block.make_containers.Given as goal

abbrev pub invariant-loop-container : goal.invariant-loop-container
invariant-loop-container l = l.terms.items ++ map container_term (range_with_len l.container (l.n - l.container)) ≡ map container_term (range_with_len 0 l.n)
