use Rattle.std.proofs.Common.{true, take}
use Rattle.std.specs.List.{flat_map}
use Rattle.pw_text.specs.Puts.{PutsText}
use Rattle.pw_check.specs.CheckText.{cpu_line}
use Rattle.pw_check.proofs.machine.put_cpus.Given as goal

abbrev pub invariant-loop-cpu : goal.invariant-loop-cpu
invariant-loop-cpu g l =
    PutsText g.K.Sink l.initial.sink l.sink l.initial.page l.page (flat_map (cpu_line l.containers) (take l.cpu-index l.cpus)) true
