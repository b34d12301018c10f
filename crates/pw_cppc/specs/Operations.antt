-- The operations on registers that requests have.
use Rattle.std.specs.Prelude.{◌==◌, ℕ, List, [], ◌∷◌, ◌++◌, length, Option, Some, None, if◌then◌else◌}
use Rattle.std.specs.List.{flat_map, range_with_len}
use Rattle.acpi_values.specs.declared.operation.Op.{Op}
use Rattle.acpi_values.specs.declared.operation.Op.TheVariants as op
use Rattle.acpi_values.specs.declared.register.Register.{Register}
use Rattle.pw_model.specs.Operations.{opening_at, set_at}
use Rattle.pw_cppc.specs.declared.parts.Control.{Control}
use Rattle.pw_cppc.specs.declared.parts.Control.TheVariants as controls
use Rattle.pw_cppc.specs.declared.plan.CppcPlan.{CppcPlan}
use Rattle.pw_cppc.specs.declared.request.CppcRequest.{CppcRequest}
use Rattle.pw_cppc.specs.declared.request.CppcRequest.TheVariants.{Desired, Minimum, Maximum}
use Rattle.pw_cppc.specs.Parts.{highest_of, lowest_of, register_of}
use Rattle.pw_cppc.specs.Planning.{domain_at, domain_of, parts_at}
use Rattle.pw_cppc.specs.Requests.{cpu_of}
use Rattle.pw_cppc.specs.declared.numbers.CppcNumbers.{CppcNumbers}
use Rattle.pw_cppc.specs.States.{changed, opening, standing, stands}
use Rattle.pw_cppc.specs.Answers.{if_accepted, refusal}

-- a value set on a processor, where it has the register
abbrev pub set_in : Option Register → ℕ → ℕ → List Op
set_in None p v = []
set_in (Some r) p v = op.Set p r v ∷ []

-- sets the value of a control on processor p, where it has the register
abbrev pub set_on : CppcPlan → Control → ℕ → ℕ → List Op
set_on P control p v = set_in (register_of control (parts_at P p)) p v

-- # Requests

-- sets a new minimum or maximum on the processor itself
abbrev pub bound_ops : CppcPlan → CppcRequest → List Op
bound_ops P (Desired p v) = []
bound_ops P (Minimum p v) = set_on P controls.Minimum p v
bound_ops P (Maximum p v) = set_on P controls.Maximum p v

-- sets where processor p stands, if that changed between two states: on all members of a SW_ALL domain, else on p
abbrev pub standing_ops : CppcPlan → CppcNumbers → CppcNumbers → ℕ → List Op
standing_ops P S T p =
    let d = domain_at P (domain_of P p) in
    if stands P S p == stands P T p then []
    else flat_map (λ q. set_on P controls.Desired q (stands P T p)) (set_at d.coord d.members p)

-- The operations of a request: none of a refusal.
unfoldable pub ops_of : CppcPlan → CppcNumbers → CppcRequest → List Op
ops_of P S q = if_accepted (refusal P S q) (λ reply. []) (bound_ops P q ++ standing_ops P S (changed S q) (cpu_of q))

-- # The start

-- sets the bounds of processor p: its lowest and its highest performance
abbrev pub range_ops : CppcPlan → ℕ → List Op
range_ops P p = set_on P controls.Minimum p (lowest_of (parts_at P p)) ++ set_on P controls.Maximum p (highest_of (parts_at P p))

-- of a fit domain: each member's bounds, and then where it stands, on each member, or on the first of a SW_ANY domain
abbrev pub opening_ops_of : CppcPlan → ℕ → List Op
opening_ops_of P d =
    let domain = domain_at P d in
    if domain.unfit == 0
    then flat_map (range_ops P) domain.members
    ++ flat_map (λ p. set_on P controls.Desired p (standing P (opening P) d p)) (opening_at domain.coord domain.members)
    else []

-- The operations at the start, in the order of the domains.
unfoldable pub opening_ops : CppcPlan → List Op
opening_ops P = flat_map (opening_ops_of P) (range_with_len 0 (length P.domains))
