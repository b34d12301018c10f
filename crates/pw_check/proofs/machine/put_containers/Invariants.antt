use Rattle.std.proofs.Common.{true, take}
use Rattle.std.specs.List.{flat_map}
use Rattle.pw_text.specs.Puts.{PutsText}
use Rattle.pw_check.specs.CheckText.{container_line}
use Rattle.pw_check.proofs.machine.put_containers.Given as goal

abbrev pub invariant-loop-container : goal.invariant-loop-container
invariant-loop-container g l =
    PutsText g.K.Sink l.initial.sink l.sink l.initial.page l.page (flat_map (container_line l.containers) (take l.container-index l.containers)) true
