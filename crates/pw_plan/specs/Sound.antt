-- What holds of every plan, of its lists alone.
use Rattle.std.specs.Prelude.{◌≡◌, ◌<◌, ◌≤◌, ◌&&◌, ℕ, Bool, true, false, List, [], length, slice_index_or, Some, nat_lt, sum_by, is_some, All}
use Rattle.std.specs.List.{list_all, position_or_len}
use Rattle.acpi_values.specs.Idle.{rows_of}
use Rattle.pw_plan.specs.declared.parts.ContainerParts.{ContainerParts}
use Rattle.pw_plan.specs.declared.parts.CpuParts.{CpuParts}
use Rattle.pw_plan.specs.declared.domain.Child.{Child}
use Rattle.pw_plan.specs.declared.domain.Child.TheVariants.{Cpu, Container}
use Rattle.pw_plan.specs.declared.domain.Domain.{Domain}
use Rattle.pw_plan.specs.declared.domain.DomainKind.{DomainKind}
use Rattle.pw_plan.specs.declared.domain.Group.{Group}
use Rattle.pw_plan.specs.Parts.{container_in, cpu_in, scale_of, count_of}
use Rattle.pw_plan.specs.Tree.{containers_of, is_number}
use Rattle.pw_plan.specs.Domains.{has_register}
use Rattle.pw_plan.specs.Groups.{domain_in, is_idle, has_member}
use Rattle.pw_plan.specs.Covering.{covers}
use Rattle.pw_plan.specs.Opening.{opening_count}

-- whether it is a child of container n by its own parent
abbrev pub is_child : List ContainerParts → List CpuParts → ℕ → Child → Bool
is_child cs ps n (Cpu p) = nat_lt p (length ps) && is_number n (cpu_in ps p).parent
is_child cs ps n (Container m) = nat_lt m (length cs) && is_number n (container_in cs m).parent

-- The tree: who is listed as a child exists and names this container, and a parent stands before its children.
pub record IsTree (cs : List ContainerParts) (ps : List CpuParts) (children : List (List Child)) : Type 0 where
  pub lists : length children ≡ length cs
  pub children_exist : (n : ℕ) → list_all (is_child cs ps n) (slice_index_or children n []) ≡ true
  pub falls : (m n : ℕ) → m < length cs → (container_in cs m).parent ≡ Some n → n < m
  pub within : (p n : ℕ) → p < length ps → (cpu_in ps p).parent ≡ Some n → n < length cs

-- What the limits leave room for.
pub record IsSmall (cs : List ContainerParts) (ps : List CpuParts) : Type 0 where
  pub containers : length cs ≤ 256
  pub cpus : length ps ≤ 256
  pub depth : (p : ℕ) → length (containers_of cs ps p) ≤ 8
  pub container_rows : (n : ℕ) → length (rows_of (container_in cs n).idle) ≤ 255
  pub cpu_rows : (p : ℕ) → length (rows_of (cpu_in ps p).idle) ≤ 255
  pub states : (kind : DomainKind) (p : ℕ) → count_of (scale_of kind (cpu_in ps p)) ≤ 255
  pub some_states : (kind : DomainKind) (p : ℕ) → is_some (scale_of kind (cpu_in ps p)) ≡ true → 0 < count_of (scale_of kind (cpu_in ps p))

-- Domains: their members are processors, and who has a scale is in just one domain of that kind; who is in one has
-- the scale, and in a fit one its control register.
pub record HasDomains (ps : List CpuParts) (ds : List Domain) : Type 0 where
  pub members : All (λ (d : Domain). All (λ p. p < length ps) d.members) ds
  pub sizes : All (λ (d : Domain). length d.members ≤ 256) ds
  pub placed : (kind : DomainKind) (p : ℕ) → p < length ps → is_some (scale_of kind (cpu_in ps p)) ≡ true
      → position_or_len (covers kind p) ds < length ds
  pub only : (kind : DomainKind) (d p : ℕ) → d < length ds → is_idle kind ≡ false → covers kind p (domain_in ds d) ≡ true
      → position_or_len (covers kind p) ds ≡ d
  pub scaled : All (λ (d : Domain). (p : ℕ) → is_idle d.kind ≡ false → has_member d.members p ≡ true
      → is_some (scale_of d.kind (cpu_in ps p)) ≡ true) ds
  pub registered : All (λ (d : Domain). (p : ℕ) → d.unfit ≡ 0 → has_member d.members p ≡ true
      → has_register (scale_of d.kind (cpu_in ps p)) ≡ true) ds
  pub few : (kind : DomainKind) (p : ℕ) → p < length ps → is_some (scale_of kind (cpu_in ps p)) ≡ true
      → position_or_len (covers kind p) ds < 512
  pub opening : sum_by opening_count ds ≤ 131072

-- Groups: their members are processors.
pub record HasGroups (ps : List CpuParts) (gs : List Group) : Type 0 where
  pub members : All (λ (g : Group). All (λ p. p < length ps) g.members) gs
  pub sizes : All (λ (g : Group). length g.members ≤ 256) gs

-- What follows, in one.
pub record IsSound (cs : List ContainerParts) (ps : List CpuParts) (children : List (List Child)) (ds : List Domain)
    (gs : List Group) : Type 0 where
  pub tree : IsTree cs ps children
  pub small : IsSmall cs ps
  pub domains : HasDomains ps ds
  pub groups : HasGroups ps gs
