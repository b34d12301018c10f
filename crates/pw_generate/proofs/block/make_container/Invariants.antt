use Rattle.std.proofs.Common.{◌≡◌, ◌++◌, ◌-◌, ◌+◌, map}
use Rattle.std.specs.List.{range_with_len}
use Rattle.pw_generate.specs.Machines.{container_objects, cpu_term, cpus_of}
use Rattle.pw_generate.proofs.block.make_container.Given as goal

abbrev pub invariant-loop-cpu : goal.invariant-loop-cpu
invariant-loop-cpu l =
    l.terms.items ++ map (cpu_term l.container) (range_with_len l.cpu (l.first + 8 - l.cpu)) ≡ container_objects ++ map (cpu_term l.container) (cpus_of l.container)
