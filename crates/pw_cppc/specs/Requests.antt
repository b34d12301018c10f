-- Requests, and how many operations they can have.
use Rattle.std.specs.Prelude.{◌<◌, ◌+◌, ◌==◌, ℕ, List, [], ◌∷◌, length, sum_by, is_some, if◌then◌else◌}
use Rattle.acpi_values.specs.declared.dependency.Coord.{Coord}
use Rattle.acpi_values.specs.declared.dependency.Coord.TheVariants.{SwAll, SwAny, HwAll}
use Rattle.pw_plan.specs.Requests.{set_count}
use Rattle.pw_cppc.specs.declared.parts.Control.{Control}
use Rattle.pw_cppc.specs.declared.parts.Control.TheVariants as controls
use Rattle.pw_cppc.specs.declared.parts.CppcParts.{CppcParts}
use Rattle.pw_cppc.specs.declared.plan.CppcDomain.{CppcDomain}
use Rattle.pw_cppc.specs.declared.plan.CppcPlan.{CppcPlan}
use Rattle.pw_cppc.specs.declared.request.CppcRequest.{CppcRequest}
use Rattle.pw_cppc.specs.declared.request.CppcRequest.TheVariants.{Desired, Minimum, Maximum}
use Rattle.pw_cppc.specs.Parts.{register_of}
use Rattle.pw_cppc.specs.Planning.{domain_at, domain_of, parts_at}

abbrev pub cpu_of : CppcRequest → ℕ
cpu_of (Desired p v) = p
cpu_of (Minimum p v) = p
cpu_of (Maximum p v) = p

abbrev pub value_of : CppcRequest → ℕ
value_of (Desired p v) = v
value_of (Minimum p v) = v
value_of (Maximum p v) = v

-- the processor of the request exists
abbrev pub Has : CppcPlan → CppcRequest → Type 0
Has P q = cpu_of q < length P.cpus

-- the bound on the operations of a request: its own register, and each member's of a SW_ALL domain, else one
abbrev pub ops_bound : CppcPlan → CppcRequest → ℕ
ops_bound P q =
    let d = domain_at P (domain_of P (cpu_of q)) in
    1 + set_count d.coord (length d.members)

-- # The start

-- 1 where the processor has the register
abbrev pub register_count : Control → CppcParts → ℕ
register_count control c = if is_some (register_of control c) then 1 else 0

-- on how many members the performance is set at the start
abbrev pub opened_by : Coord → List ℕ → ℕ
opened_by SwAll members = length members
opened_by SwAny [] = 0
opened_by SwAny (p ∷ ps) = 1
opened_by HwAll members = length members

-- the operations at the start on a domain, none where it is unfit
abbrev pub opening_count : CppcPlan → CppcDomain → ℕ
opening_count P d = if d.unfit == 0
    then sum_by (λ p. register_count controls.Minimum (parts_at P p) + register_count controls.Maximum (parts_at P p)) d.members
    + opened_by d.coord d.members
    else 0

-- the number of the operations at the start
abbrev pub opening_bound : CppcPlan → ℕ
opening_bound P = sum_by (opening_count P) P.domains
