-- The operations on registers that requests have.
use Rattle.std.specs.Prelude.{◌==◌, ◌&&◌, not, ℕ, Bool, List, [], ◌∷◌, ◌++◌, map, filter, length, slice_index_or, Option, Some, None, if◌then◌else◌, nat_lt}
use Rattle.std.specs.List.{list_any, range_with_len, flat_map}
use Rattle.acpi_values.specs.declared.dependency.Coord.{Coord}
use Rattle.acpi_values.specs.declared.dependency.Coord.TheVariants.{SwAll, SwAny, HwAll}
use Rattle.acpi_values.specs.declared.idle.IdleKind.{IdleKind}
use Rattle.acpi_values.specs.declared.idle.IdleKind.TheVariants.{Lpi, Cst, Absent}
use Rattle.acpi_values.specs.declared.lpi.EntryMethod.TheVariants as entry
use Rattle.acpi_values.specs.declared.operation.Op.{Op}
use Rattle.acpi_values.specs.declared.operation.Op.TheVariants as op
use Rattle.acpi_values.specs.declared.register.Register.{Register}
use Rattle.pw_plan.specs.declared.domain.Domain.{Domain}
use Rattle.pw_plan.specs.declared.domain.DomainKind.{DomainKind}
use Rattle.pw_plan.specs.declared.domain.DomainKind.TheVariants as kinds
use Rattle.pw_plan.specs.declared.parts.Scale.{Scale}
use Rattle.pw_plan.specs.declared.plan.Plan.{Plan}
use Rattle.pw_plan.specs.declared.request.Request.{Request}
use Rattle.pw_plan.specs.declared.request.Request.TheVariants.{Idle, Wake, Perf, Throttle, PerfLimit, ThrottleLimit}
use Rattle.pw_plan.specs.Groups.{is_idle}
use Rattle.pw_plan.specs.Parts.{scale_of}
use Rattle.pw_plan.specs.Places.{cpu_at, domain_at, domain_of, group_at, group_of}
use Rattle.pw_model.specs.declared.state.State.{State}
use Rattle.pw_model.specs.States.{opening}
use Rattle.pw_model.specs.Domains.{is_sw_all, standing, governs, c_state}
use Rattle.pw_model.specs.Refusals.{refusal}
use Rattle.pw_model.specs.Answers.{if_accepted, changed, states_of}
use Rattle.pw_model.specs.Composites.{own_register, composite_of}

-- # Performance and throttling

-- the control register of a scale (ACPI 6.5, 8.4.5.1). A fit domain's members have one
abbrev pub register_in : Option Register → Register
register_in None = own_register (entry.Integer 0)
register_in (Some r) = r

abbrev pub register_of : Option Scale → Register
register_of None = register_in None
register_of (Some scale) = register_in scale.register

-- the control value of state s
abbrev pub control_of : Option Scale → ℕ → ℕ
control_of None s = 0
control_of (Some scale) s = slice_index_or scale.controls s 0

-- sets state s on processor p, by its own register and control value
abbrev pub set_on : Plan → DomainKind → ℕ → ℕ → Op
set_on P kind s p =
    let scale = scale_of kind (cpu_at P p) in
    op.Set p (register_of scale) (control_of scale s)

-- on whom a new state is set: on all members, or on the requester p
abbrev pub set_at : Coord → List ℕ → ℕ → List ℕ
set_at SwAll members p = members
set_at SwAny members p = p ∷ []
set_at HwAll members p = p ∷ []

-- sets where the domain of processor p stands, if that changed between two states
abbrev pub domain_ops : Plan → State → State → DomainKind → ℕ → List Op
domain_ops P S T kind p =
    let d = domain_of P kind p in
    if standing P S d p == standing P T d p then []
    else map (set_on P kind (standing P T d p)) (set_at (domain_at P d).coord (domain_at P d).members p)

-- # Idle states

abbrev pub enter : Plan → State → ℕ → Op
enter P S p = op.Enter p (composite_of P p (states_of P S p))

-- what the requester enters: with C states nothing at C state 0
abbrev pub own_entry : IdleKind → ℕ → Op → List Op
own_entry Lpi c op = op ∷ []
own_entry Cst c op = if c == 0 then [] else op ∷ []
own_entry Absent c op = []

-- whether the C state of q rose between two states, to one that a SW_ALL domain of q is about
abbrev pub is_drawn : Plan → State → State → ℕ → Bool
is_drawn P S T q =
    nat_lt (c_state P S q) (c_state P T q)
    && list_any (λ (d : Domain). governs q (c_state P T q) d && is_sw_all d.coord) P.domains

-- the other members of the group of p that are drawn along
abbrev pub drawn_with : Plan → State → State → ℕ → List ℕ
drawn_with P S T p = filter (λ q. not (q == p) && is_drawn P S T q) (group_at P (group_of P p)).members

-- the requester first, then those who are drawn along, in their order
abbrev pub idle_ops : Plan → State → State → ℕ → List Op
idle_ops P S T p = own_entry (cpu_at P p).idle.kind (c_state P T p) (enter P T p) ++ map (enter P T) (drawn_with P S T p)

-- # All requests

-- the operations of an accepted request, from the states before and after it
unfoldable pub accepted_ops : Plan → State → State → Request → List Op
accepted_ops P S T (Idle p s t) = idle_ops P S T p
accepted_ops P S T (Wake p) = []
accepted_ops P S T (Perf p i) = domain_ops P S T kinds.Perf p
accepted_ops P S T (Throttle p i) = domain_ops P S T kinds.Throttle p
accepted_ops P S T (PerfLimit p n) = domain_ops P S T kinds.Perf p
accepted_ops P S T (ThrottleLimit p n) = domain_ops P S T kinds.Throttle p

-- The operations of a request: none of a refusal.
unfoldable pub ops_of : Plan → State → Request → List Op
ops_of P S q = if_accepted (refusal P S q) (λ reply. []) (accepted_ops P S (changed P S q) q)

-- # The start

abbrev pub first_member : List ℕ → List ℕ
first_member [] = []
first_member (p ∷ ps) = p ∷ []

-- on whom a state is set at the start
abbrev pub opening_at : Coord → List ℕ → List ℕ
opening_at SwAll members = members
opening_at SwAny members = first_member members
opening_at HwAll members = members

-- sets where a fit domain of performance or throttling stands
abbrev pub opening_ops_of : Plan → ℕ → List Op
opening_ops_of P d =
    let domain = domain_at P d in
    if is_idle domain.kind then [] else
    if nat_lt 0 domain.unfit then [] else
    map (λ p. set_on P domain.kind (standing P (opening P) d p) p) (opening_at domain.coord domain.members)

-- The operations at the start, in the order of the domains.
unfoldable pub opening_ops : Plan → List Op
opening_ops P = flat_map (opening_ops_of P) (range_with_len 0 (length P.domains))
