use Rattle.std.proofs.Common.{◌≡◌, map, take}
use Rattle.pw_plan.specs.declared.parts.CpuParts.{CpuParts}
use Rattle.pw_cppc.proofs.planning.paths_of.Given as goal

abbrev pub invariant-loop-cpu : goal.invariant-loop-cpu
invariant-loop-cpu l = l.paths.items ≡ map (λ (c : CpuParts). c.path) (take l.cpu-index l.cpu-items)
