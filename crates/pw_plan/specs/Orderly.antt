-- What a plan tells of its lists besides their soundness: who stands where, and once.
use Rattle.std.specs.Prelude.{◌≡◌, ◌<◌, ◌==◌, not, ℕ, Bool, true, false, List, [], length, slice_index_or, Some, All, count_by}
use Rattle.std.specs.List.{list_any, position_or_len}
use Rattle.std.specs.List.Sorted.{IsStrictlyIncreasing}
use Rattle.acpi_values.specs.declared.idle.IdleKind.{IdleKind}
use Rattle.acpi_values.specs.declared.idle.IdleKind.TheVariants.{Cst, Lpi, Absent}
use Rattle.pw_plan.specs.declared.parts.ContainerParts.{ContainerParts}
use Rattle.pw_plan.specs.declared.parts.CpuParts.{CpuParts}
use Rattle.pw_plan.specs.declared.domain.Child.{Child}
use Rattle.pw_plan.specs.declared.domain.Child.TheVariants.{Cpu, Container}
use Rattle.pw_plan.specs.declared.domain.Domain.{Domain}
use Rattle.pw_plan.specs.declared.domain.Group.{Group}
use Rattle.pw_plan.specs.Parts.{container_in, cpu_in}
use Rattle.pw_plan.specs.Groups.{domain_in, has_member, is_idle, is_link, no_group}

-- whether they are the same child
abbrev pub is_same : Child → Child → Bool
is_same (Cpu p) (Cpu q) = q == p
is_same (Cpu p) (Container n) = false
is_same (Container m) (Cpu q) = false
is_same (Container m) (Container n) = n == m

abbrev pub is_cst : IdleKind → Bool
is_cst Cst = true
is_cst Lpi = false
is_cst Absent = false

-- child j of container n
abbrev pub child_in : List (List Child) → ℕ → ℕ → Child
child_in children n j = slice_index_or (slice_index_or children n []) j (Cpu 0)

abbrev pub is_scaled : Domain → Bool
is_scaled d = not (is_idle d.kind)

-- the number of the group that has the processor, or how many there are
abbrev pub group_in : List Group → ℕ → ℕ
group_in gs p = position_or_len (λ (g : Group). has_member g.members p) gs

-- What a plan tells beyond its soundness, of its lists alone. A child is listed under its parent, and once; members rise;
-- domains of idle states come last; who is in a group has C states and is in no other group; the members of an idle domain
-- that software coordinates are in one group.
pub record IsOrderly (cs : List ContainerParts) (ps : List CpuParts) (children : List (List Child)) (ds : List Domain)
    (gs : List Group) : Type 0 where
  pub listed : (n p : ℕ) → p < length ps → (cpu_in ps p).parent ≡ Some n → list_any (is_same (Cpu p)) (slice_index_or children n []) ≡ true
  pub nested : (n m : ℕ) → m < length cs → (container_in cs m).parent ≡ Some n
      → list_any (is_same (Container m)) (slice_index_or children n []) ≡ true
  pub once : (n j k : ℕ) → j < k → k < length (slice_index_or children n [])
      → is_same (child_in children n j) (child_in children n k) ≡ false
  pub members : All (λ (d : Domain). IsStrictlyIncreasing d.members) ds
  pub scaled_first : (d : ℕ) → d < length ds → is_scaled (domain_in ds d) ≡ true → d < count_by is_scaled ds
  pub grouped : All (λ (g : Group). IsStrictlyIncreasing g.members) gs
  pub kind : All (λ (g : Group). (p : ℕ) → has_member g.members p ≡ true → is_cst (cpu_in ps p).idle.kind ≡ true) gs
  pub one_group : (g p : ℕ) → g < length gs → has_member (slice_index_or gs g no_group).members p ≡ true → group_in gs p ≡ g
  pub together : All (λ (d : Domain). (p q : ℕ) → is_link d ≡ true → has_member d.members p ≡ true → has_member d.members q ≡ true
      → (group_in gs p < length gs) × (has_member (slice_index_or gs (group_in gs p) no_group).members q ≡ true)) ds
