use Rattle.std.proofs.Common.{◌≡◌, ◌++◌, take}
use Rattle.std.specs.List.{flat_map}
use Rattle.pw_lint.specs.Machine.{cpu_findings}
use Rattle.pw_lint.proofs.processors.find_in_cpus.Given as goal

abbrev pub invariant-loop-cpu : goal.invariant-loop-cpu
invariant-loop-cpu l = l.found.items ≡ l.initial.found.items ++ flat_map (cpu_findings l.space l.containers l.cpus) (take l.cpu-index l.cpus)
