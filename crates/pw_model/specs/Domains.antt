-- Where domains stand, and C states (ACPI 6.5, 8.3).
use Rattle.std.specs.Prelude.{◌==◌, ◌+◌, ◌&&◌, ◌||◌, not, ℕ, max, min, Bool, true, false, List, map, fold, if◌then◌else◌, nat_le}
use Rattle.std.specs.List.{list_all}
use Rattle.acpi_values.specs.declared.dependency.Coord.{Coord}
use Rattle.acpi_values.specs.declared.dependency.Coord.TheVariants.{SwAll, SwAny, HwAll}
use Rattle.pw_plan.specs.declared.domain.Domain.{Domain}
use Rattle.pw_plan.specs.declared.domain.DomainKind.TheVariants.{Idle}
use Rattle.pw_plan.specs.declared.plan.Plan.{Plan}
use Rattle.pw_plan.specs.Groups.{is_software}
use Rattle.pw_plan.specs.Places.{domain_at}
use Rattle.pw_plan.specs.Covering.{covers}
use Rattle.pw_model.specs.declared.state.State.{State}
use Rattle.pw_model.specs.States.{vote_of, ask_of, limit_of}
use Rattle.pw_model.specs.Containers.{greatest}

abbrev pub is_sw_all : Coord → Bool
is_sw_all SwAll = true
is_sw_all SwAny = false
is_sw_all HwAll = false

-- # Performance and throttling

-- where members with these asks and limits stand together: at the fastest state that is asked for, or at the slowest
-- limit where that is slower. An index is less than 255, and a smaller one is faster
abbrev pub stands_at : List ℕ → List ℕ → ℕ
stands_at asks limits = max (fold max 0 limits) (fold min 255 asks)

-- where domain d stands, or in a domain that hardware coordinates its member p
abbrev pub standing : Plan → State → ℕ → ℕ → ℕ
standing P S d p =
    let domain = domain_at P d in
    if is_software domain.coord
    then stands_at (map (ask_of domain.kind S) domain.members) (map (limit_of domain.kind S) domain.members)
    else max (limit_of domain.kind S p) (ask_of domain.kind S p)

-- # C states

-- the C state that an idle domain is about, counted from 1
abbrev pub state_of : Domain → ℕ
state_of d = d.index + 1

-- whether each member votes for the domain's state or a deeper one
abbrev pub is_gathered : State → Domain → Bool
is_gathered S d = list_all (λ q. nat_le (state_of d) (vote_of S q).state) d.members

-- whether it is an idle domain of processor p that software coordinates, about C state j
abbrev pub governs : ℕ → ℕ → Domain → Bool
governs p j d = covers Idle p d && is_software d.coord && (state_of d == j)

-- whether each domain that governs C state j of processor p is gathered
abbrev pub may_enter : Plan → State → ℕ → ℕ → Bool
may_enter P S p j = list_all (λ d. not (governs p j d) || is_gathered S d) P.domains

-- The C state of a processor: the deepest up to its vote that its domains let it enter.
abbrev pub c_state : Plan → State → ℕ → ℕ
c_state P S p = greatest (may_enter P S p) (vote_of S p).state
