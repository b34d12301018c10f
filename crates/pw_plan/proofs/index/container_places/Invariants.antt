use Rattle.std.proofs.Common.{◌≡◌, ◌++◌, ◌-◌, map, length}
use Rattle.std.specs.List.{range_with_len}
use Rattle.pw_plan.specs.Index.{container_place, container_places}
use Rattle.pw_plan.proofs.index.container_places.Given as goal

abbrev pub invariant-loop-number : goal.invariant-loop-number
invariant-loop-number l =
    l.places.items ++ map (container_place l.children l.containers) (range_with_len l.number (length l.containers - l.number))
    ≡ container_places l.children l.containers
