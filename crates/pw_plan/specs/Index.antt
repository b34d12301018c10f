-- The index of a plan: where each processor and each container stands.
use Rattle.std.specs.Prelude.{◌≡◌, ◌<◌, ◌==◌, ◌&&◌, not, ℕ, Bool, List, [], map, length, slice_index_or, Option, Some, None}
use Rattle.std.specs.Option.{option_map}
use Rattle.std.specs.List.{position, position_or_len, range_with_len}
use Rattle.pw_plan.specs.declared.parts.ContainerParts.{ContainerParts}
use Rattle.pw_plan.specs.declared.parts.CpuParts.{CpuParts}
use Rattle.pw_plan.specs.declared.domain.Child.{Child}
use Rattle.pw_plan.specs.declared.domain.Child.TheVariants.{Cpu, Container}
use Rattle.pw_plan.specs.declared.domain.Domain.{Domain}
use Rattle.pw_plan.specs.declared.domain.DomainKind.TheVariants.{Perf, Throttle, Idle}
use Rattle.pw_plan.specs.declared.domain.Group.{Group}
use Rattle.pw_plan.specs.declared.index.CpuIndex.{CpuIndex}
use Rattle.pw_plan.specs.declared.index.Membership.{Membership}
use Rattle.pw_plan.specs.Groups.{domain_in, has_member, no_group}
use Rattle.pw_plan.specs.Orderly.{is_same}
use Rattle.pw_plan.specs.Parts.{container_in, cpu_in}
use Rattle.pw_plan.specs.Covering.{covers}
use Rattle.pw_plan.specs.Tree.{places_from}

-- the place of processor p among these members, or how many they are
abbrev pub member_place : List ℕ → ℕ → ℕ
member_place members p = position_or_len (λ q. q == p) members

-- the membership is in element k of these domains or groups
abbrev pub IsPlaceIn : {X : Type 0} → List X → ℕ → Membership → Type 0
IsPlaceIn xs k membership = (membership.place ≡ k) × (k < length xs)

-- where processor p stands in domain d
abbrev pub membership_in : List Domain → ℕ → ℕ → Membership
membership_in ds p d = record { place = d; member = member_place (domain_in ds d).members p }

-- where it stands in the first domain that passes a test
abbrev pub first_membership : (Domain → Bool) → List Domain → ℕ → Option Membership
first_membership test ds p = option_map (membership_in ds p) (position test ds)

-- where it stands in its idle domains, in their order
abbrev pub idle_memberships : List Domain → ℕ → List Membership
idle_memberships ds p = map (membership_in ds p) (places_from (covers Idle p) 0 ds)

-- whether it is an idle domain of processor p that can't be coordinated
abbrev pub is_unfit : ℕ → Domain → Bool
is_unfit p d = covers Idle p d && not (d.unfit == 0)

-- where processor p stands in group g
abbrev pub group_membership_in : List Group → ℕ → ℕ → Membership
group_membership_in gs p g = record { place = g; member = member_place (slice_index_or gs g no_group).members p }

-- where it stands in the group that has it
abbrev pub group_membership : List Group → ℕ → Option Membership
group_membership gs p = option_map (group_membership_in gs p) (position (λ (g : Group). has_member g.members p) gs)

-- the place of a child among the children of its container
abbrev pub child_place : List (List Child) → Option ℕ → Child → Option ℕ
child_place children None child = None
child_place children (Some n) child = position (is_same child) (slice_index_or children n [])

-- where processor p stands, whose parent this is
abbrev pub index_under : List (List Child) → Option ℕ → List Domain → List Group → ℕ → CpuIndex
index_under children parent ds gs p = record {
  child = child_place children parent (Cpu p);
  perf = first_membership (covers Perf p) ds p;
  throttle = first_membership (covers Throttle p) ds p;
  idle = idle_memberships ds p;
  unfit = first_membership (is_unfit p) ds p;
  group = group_membership gs p;
}

-- where processor p stands
abbrev pub cpu_index : List (List Child) → List CpuParts → List Domain → List Group → ℕ → CpuIndex
cpu_index children ps ds gs p = index_under children (cpu_in ps p).parent ds gs p

abbrev pub cpu_indices : List (List Child) → List CpuParts → List Domain → List Group → List CpuIndex
cpu_indices children ps ds gs = map (cpu_index children ps ds gs) (range_with_len 0 (length ps))

-- the place of container n among the children of the one around it
abbrev pub container_place : List (List Child) → List ContainerParts → ℕ → Option ℕ
container_place children cs n = child_place children (container_in cs n).parent (Container n)

abbrev pub container_places : List (List Child) → List ContainerParts → List (Option ℕ)
container_places children cs = map (container_place children cs) (range_with_len 0 (length cs))

-- The index says where each processor stands, and each container among the children of the one around it.
pub record IsIndexed (cs : List ContainerParts) (ps : List CpuParts) (children : List (List Child)) (ds : List Domain) (gs : List Group)
    (indices : List CpuIndex) (places : List (Option ℕ)) : Type 0 where
  pub cpus : indices ≡ cpu_indices children ps ds gs
  pub containers : places ≡ container_places children cs
