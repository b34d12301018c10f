use Rattle.std.proofs.Common.{◌≡◌, ◌≤◌, ◌+◌, drop, length}
use Rattle.pw_plan.specs.declared.parts.ContainerParts.{ContainerParts}
use Rattle.pw_plan.specs.declared.parts.CpuParts.{CpuParts}
use Rattle.pw_plan.specs.Tree.{children_of, is_number, places_from}
use Rattle.pw_plan.proofs.limits.child_count.Given as goal

abbrev pub invariant-loop-container : goal.invariant-loop-container
invariant-loop-container l = record {
  small : l.count ≤ l.container-index;
  rest : l.count + length (places_from (λ (c : ContainerParts). is_number l.node c.parent) l.container-index (drop l.container-index l.containers))
      ≡ length (places_from (λ (c : ContainerParts). is_number l.node c.parent) 0 l.containers);
}

abbrev pub invariant-loop-cpu : goal.invariant-loop-cpu
invariant-loop-cpu l = record {
  small : l.count ≤ 256 + l.cpu-index;
  rest : l.count + length (places_from (λ (c : CpuParts). is_number l.node c.parent) l.cpu-index (drop l.cpu-index l.cpus))
      ≡ length (children_of l.containers l.cpus l.node);
}
