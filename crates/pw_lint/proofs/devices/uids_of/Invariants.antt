use Rattle.std.proofs.Common.{◌≡◌, map, take}
use Rattle.pw_plan.specs.declared.parts.CpuParts.{CpuParts}
use Rattle.pw_lint.specs.Devices.{uid_of}
use Rattle.pw_lint.proofs.devices.uids_of.Given as goal

abbrev pub invariant-loop-cpu : goal.invariant-loop-cpu
invariant-loop-cpu l = l.uids.items ≡ map (λ (c : CpuParts). uid_of l.space c.path) (take l.cpu-index l.cpus)
