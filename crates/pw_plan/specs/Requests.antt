-- Requests, and how many operations they can have.
use Rattle.std.specs.Prelude.{◌<◌, ℕ, length, if◌then◌else◌, nat_lt, sum_by}
use Rattle.acpi_values.specs.declared.dependency.Coord.{Coord}
use Rattle.acpi_values.specs.declared.dependency.Coord.TheVariants.{SwAll, SwAny, HwAll}
use Rattle.pw_plan.specs.declared.domain.DomainKind.{DomainKind}
use Rattle.pw_plan.specs.declared.domain.DomainKind.TheVariants as kinds
use Rattle.pw_plan.specs.declared.plan.Plan.{Plan}
use Rattle.pw_plan.specs.declared.request.Request.{Request}
use Rattle.pw_plan.specs.declared.request.Request.TheVariants.{Idle, Wake, Perf, Throttle, PerfLimit, ThrottleLimit}
use Rattle.pw_plan.specs.Places.{domain_at, domain_of, group_at, group_of}
use Rattle.pw_plan.specs.Opening.{opening_count}

abbrev pub cpu_of : Request → ℕ
cpu_of (Idle p s t) = p
cpu_of (Wake p) = p
cpu_of (Perf p i) = p
cpu_of (Throttle p i) = p
cpu_of (PerfLimit p n) = p
cpu_of (ThrottleLimit p n) = p

-- the processor of the request exists
abbrev pub Has : Plan → Request → Type 0
Has P q = cpu_of q < length P.cpus

-- on how many members a new state of a domain is set: all of a SW_ALL domain, else one
abbrev pub set_count : Coord → ℕ → ℕ
set_count SwAll members = members
set_count SwAny members = 1
set_count HwAll members = 1

-- the members of the processor's SW_ALL domain of this kind, else 1
abbrev pub domain_bound : Plan → DomainKind → ℕ → ℕ
domain_bound P kind p = set_count (domain_at P (domain_of P kind p)).coord (length (domain_at P (domain_of P kind p)).members)

-- the members of the processor's group, 1 where it has none
abbrev pub group_bound : Plan → ℕ → ℕ
group_bound P p = if nat_lt (group_of P p) (length P.groups) then length (group_at P (group_of P p)).members else 1

-- the bound on the operations of a request
abbrev pub ops_bound : Plan → Request → ℕ
ops_bound P (Idle p s t) = group_bound P p
ops_bound P (Wake p) = 0
ops_bound P (Perf p i) = domain_bound P kinds.Perf p
ops_bound P (Throttle p i) = domain_bound P kinds.Throttle p
ops_bound P (PerfLimit p n) = domain_bound P kinds.Perf p
ops_bound P (ThrottleLimit p n) = domain_bound P kinds.Throttle p

-- the number of the operations at the start: one for each member of a fit domain of performance or throttling,
-- one alone where it is SW_ANY
abbrev pub opening_bound : Plan → ℕ
opening_bound P = sum_by opening_count P.domains
