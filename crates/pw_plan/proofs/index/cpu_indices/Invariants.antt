use Rattle.std.proofs.Common.{◌≡◌, ◌++◌, ◌-◌, map, length}
use Rattle.std.specs.List.{range_with_len}
use Rattle.pw_plan.specs.Index.{cpu_index, cpu_indices}
use Rattle.pw_plan.proofs.index.cpu_indices.Given as goal

abbrev pub invariant-loop-number : goal.invariant-loop-number
invariant-loop-number l =
    l.indices.items ++ map (cpu_index l.children l.cpus l.domains l.groups) (range_with_len l.number (length l.cpus - l.number))
    ≡ cpu_indices l.children l.cpus l.domains l.groups
