use Rattle.std.proofs.Common.{◌≡◌, map, take, get_or, None}
use Rattle.acpi_space.specs.declared.object.Placed.{Placed}
use Rattle.acpi_space.proofs.labels.at_objects.Given as goal

abbrev pub invariant-loop-placed : goal.invariant-loop-placed
invariant-loop-placed l = l.result.items ≡ map (λ (p : Placed). get_or l.around p.name None) (take l.placed-index l.placed)
