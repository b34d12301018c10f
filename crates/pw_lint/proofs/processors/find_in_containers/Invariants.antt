use Rattle.std.proofs.Common.{◌≡◌, ◌++◌, take}
use Rattle.std.specs.List.{flat_map}
use Rattle.pw_lint.specs.Machine.{container_findings}
use Rattle.pw_lint.proofs.processors.find_in_containers.Given as goal

abbrev pub invariant-loop-container : goal.invariant-loop-container
invariant-loop-container l = l.found.items ≡ l.initial.found.items ++ flat_map (container_findings l.space l.containers) (take l.container-index l.containers)
