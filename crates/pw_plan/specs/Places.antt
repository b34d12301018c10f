-- What stands at a number in a plan.
use Rattle.std.specs.Prelude.{◌≡◌, ◌-◌, ◌<◌, ℕ, List, [], length, slice_index_or, Option, Some}
use Rattle.std.specs.List.{position_or_len}
use Rattle.acpi_values.specs.Idle.{rows_of}
use Rattle.acpi_values.specs.declared.idle.IdleRow.{IdleRow}
use Rattle.acpi_values.specs.declared.idle.IdleTable.{IdleTable}
use Rattle.pw_plan.specs.declared.parts.ContainerParts.{ContainerParts}
use Rattle.pw_plan.specs.declared.parts.CpuParts.{CpuParts}
use Rattle.pw_plan.specs.declared.domain.Child.{Child}
use Rattle.pw_plan.specs.declared.domain.Child.TheVariants.{Cpu, Container}
use Rattle.pw_plan.specs.declared.domain.Domain.{Domain}
use Rattle.pw_plan.specs.declared.domain.DomainKind.{DomainKind}
use Rattle.pw_plan.specs.declared.domain.Group.{Group}
use Rattle.pw_plan.specs.declared.plan.Plan.{Plan}
use Rattle.pw_plan.specs.Parts.{container_in, cpu_in, no_row}
use Rattle.pw_plan.specs.Groups.{domain_in, has_member}
unfoldable pub use Rattle.pw_plan.specs.Groups.{no_group}
use Rattle.pw_plan.specs.Index.{is_unfit}
use Rattle.pw_plan.specs.Covering.{covers}

abbrev pub container_at : Plan → ℕ → ContainerParts
container_at P n = container_in P.containers n

abbrev pub cpu_at : Plan → ℕ → CpuParts
cpu_at P p = cpu_in P.cpus p

abbrev pub children_at : Plan → ℕ → List Child
children_at P n = slice_index_or P.children n []

abbrev pub domain_at : Plan → ℕ → Domain
domain_at P d = domain_in P.domains d

abbrev pub group_at : Plan → ℕ → Group
group_at P g = slice_index_or P.groups g no_group

-- the row of state i of a table, counted from 1
abbrev pub row_at : IdleTable → ℕ → IdleRow
row_at t i = slice_index_or (rows_of t) (i - 1) no_row

abbrev pub parent_of : Plan → Child → Option ℕ
parent_of P (Cpu p) = (cpu_at P p).parent
parent_of P (Container n) = (container_at P n).parent

-- whether it is a processor or a container of the plan
abbrev pub IsIn : Plan → Child → Type 0
IsIn P (Cpu p) = p < length P.cpus
IsIn P (Container n) = n < length P.containers

-- the child stands at this place among the children of its parent
abbrev pub IsChildPlace : Plan → Child → ℕ → Type 0
IsChildPlace P c j = (n : ℕ) → parent_of P c ≡ Some n → (j < length (children_at P n)) × (slice_index_or (children_at P n) j c ≡ c)

abbrev pub table_of : Plan → Child → IdleTable
table_of P (Cpu p) = (cpu_at P p).idle
table_of P (Container n) = (container_at P n).idle

-- the number of the first domain of this kind that has the processor, or how many domains there are
abbrev pub domain_of : Plan → DomainKind → ℕ → ℕ
domain_of P kind p = position_or_len (covers kind p) P.domains

-- the number of the first idle domain of the processor that can't be coordinated, or how many domains there are
abbrev pub unfit_of : Plan → ℕ → ℕ
unfit_of P p = position_or_len (is_unfit p) P.domains

-- the number of the group that has the processor, or how many groups there are
abbrev pub group_of : Plan → ℕ → ℕ
group_of P p = position_or_len (λ (g : Group). has_member g.members p) P.groups
