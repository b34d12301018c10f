-- Plans with the same lists are the same plan.
use Rattle.std.proofs.Common.{◌≡◌, ℕ, List, Option, refl, sym, ap, subst, ◌∙◌}
use Rattle.std.proofs.Props.{props}
use Rattle.pw_plan.specs.declared.parts.ContainerParts.{ContainerParts}
use Rattle.pw_plan.specs.declared.parts.CpuParts.{CpuParts}
use Rattle.pw_plan.specs.declared.domain.Child.{Child}
use Rattle.pw_plan.specs.declared.domain.Domain.{Domain}
use Rattle.pw_plan.specs.declared.domain.Group.{Group}
use Rattle.pw_plan.specs.declared.index.CpuIndex.{CpuIndex}
use Rattle.pw_plan.specs.declared.plan.Plan.{Plan}
use Rattle.pw_plan.specs.Planning.{IsPlanOf}
use Rattle.pw_plan.specs.Sound.{IsSound}
use Rattle.pw_plan.specs.Orderly.{IsOrderly}
use Rattle.pw_plan.specs.Index.{IsIndexed}
use Rattle.acpi_build.specs.Planning.{AreSame}

-- the lists of a plan
record Lists : Type 0 where
  pub containers : List ContainerParts
  pub children : List (List Child)
  pub cpus : List CpuParts
  pub domains : List Domain
  pub groups : List Group
  pub cpu_index : List CpuIndex
  pub container_index : List (Option ℕ)

-- what is true of them
record Facts (l : Lists) : Type 0 where
  pub planned : ∥ IsPlanOf l.containers l.cpus l.children l.domains l.groups ∥₁
  pub sound : IsSound l.containers l.cpus l.children l.domains l.groups
  pub orderly : IsOrderly l.containers l.cpus l.children l.domains l.groups
  pub indexed : IsIndexed l.containers l.cpus l.children l.domains l.groups l.cpu_index l.container_index

abbrev lists_of : Plan → Lists
lists_of P = record {
  containers = P.containers;
  children = P.children;
  cpus = P.cpus;
  domains = P.domains;
  groups = P.groups;
  cpu_index = P.cpu_index;
  container_index = P.container_index;
}

abbrev facts_of : (P : Plan) → Facts (lists_of P)
facts_of P = record { planned = P.planned; sound = P.sound; orderly = P.orderly; indexed = P.indexed }

abbrev plan_of : (l : Lists) → Facts l → Plan
plan_of l f = record {
  containers = l.containers;
  children = l.children;
  cpus = l.cpus;
  domains = l.domains;
  groups = l.groups;
  cpu_index = l.cpu_index;
  container_index = l.container_index;
  planned = f.planned;
  sound = f.sound;
  orderly = f.orderly;
  indexed = f.indexed;
}

-- each fact has one proof
facts_one : (l : Lists) (a b : Facts l) → a ≡ b
facts_one l a b = let one : IsProp (Facts l) = hlevel props in one a b

plans_of_one : (l m : Lists) → l ≡ m → (a : Facts l) (b : Facts m) → plan_of l a ≡ plan_of m b
plans_of_one l m e a = subst (λ (k : Lists). (b : Facts k) → plan_of l a ≡ plan_of k b) e (λ b. ap (plan_of l) (facts_one l a b))

-- the indices are those of the lists
same_lists : (P Q : Plan) → AreSame P Q → lists_of P ≡ lists_of Q
same_lists P Q same =
    let containers = same.containers in
    let cpus = same.cpus in
    let children = same.children in
    let domains = same.domains in
    let groups = same.groups in
    let of_cpus : P.cpu_index ≡ Q.cpu_index = P.indexed.cpus ∙ rw (children, cpus, domains, groups) refl ∙ sym Q.indexed.cpus in
    let of_containers : P.container_index ≡ Q.container_index = P.indexed.containers ∙ rw (children, containers) refl ∙ sym Q.indexed.containers in
    cc

-- Plans with the same lists are one.
pub same_plans : (P Q : Plan) → AreSame P Q → P ≡ Q
same_plans P Q same = plans_of_one (lists_of P) (lists_of Q) (same_lists P Q same) (facts_of P) (facts_of Q)
