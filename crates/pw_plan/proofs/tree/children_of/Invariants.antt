use Rattle.std.proofs.Common.{◌≡◌, ◌++◌, map, drop}
use Rattle.pw_plan.specs.declared.parts.ContainerParts.{ContainerParts}
use Rattle.pw_plan.specs.declared.parts.CpuParts.{CpuParts}
use Rattle.pw_plan.specs.declared.domain.Child.TheVariants.{Cpu, Container}
use Rattle.pw_plan.specs.Tree.{children_of, is_number, places_from}
use Rattle.pw_plan.proofs.tree.children_of.Given as goal

abbrev pub invariant-containers : goal.invariant-containers
invariant-containers l =
    l.children.items ++ map (λ m. Container m) (places_from (λ (c : ContainerParts). is_number l.node c.parent) l.number (drop l.number l.containers))
    ≡ map (λ m. Container m) (places_from (λ (c : ContainerParts). is_number l.node c.parent) 0 l.containers)

abbrev pub invariant-cpus : goal.invariant-cpus
invariant-cpus l =
    l.children.items ++ map (λ p. Cpu p) (places_from (λ (c : CpuParts). is_number l.node c.parent) l.number (drop l.number l.cpus))
    ≡ children_of l.containers l.cpus l.node
