-- What the definitions amount to, in words of their subject.
use Rattle.std.specs.Prelude.{◌≡◌, ◌≢◌, ◌<◌, ◌≤◌, ◌++◌, ℕ, true, false, List, ◌∷◌, length, Option, Some}
use Rattle.std.specs.List.{AllByRecursion}
use Rattle.std.specs.Option.{option_and_then}
use Rattle.acpi_values.specs.Idle.{rows_of}
use Rattle.acpi_values.specs.declared.dependency.Coord.{Coord}
use Rattle.acpi_values.specs.declared.operation.Op.{Op}
use Rattle.acpi_values.specs.declared.operation.Op.TheVariants.{Set}
use Rattle.acpi_values.specs.declared.register.Register.{Register}
use Rattle.pw_plan.specs.declared.domain.Child.{Child}
use Rattle.pw_plan.specs.declared.domain.Domain.{Domain}
use Rattle.pw_plan.specs.declared.domain.DomainKind.{DomainKind}
use Rattle.pw_plan.specs.declared.domain.DomainKind.TheVariants.{Perf, Throttle}
use Rattle.pw_plan.specs.declared.parts.CpuParts.{CpuParts}
use Rattle.pw_plan.specs.declared.parts.Scale.{Scale}
use Rattle.pw_plan.specs.declared.plan.Plan.{Plan}
use Rattle.pw_plan.specs.Groups.{has_member, is_idle, is_software}
use Rattle.pw_plan.specs.Parts.{scale_of}
use Rattle.pw_plan.specs.Places.{children_at, container_at, cpu_at, domain_at, row_at, table_of}
use Rattle.pw_model.specs.declared.state.State.{State}
use Rattle.pw_model.specs.States.{ask_of, limit_of, vote_of}
use Rattle.pw_model.specs.Containers.{child_vote}
use Rattle.pw_model.specs.Domains.{standing, state_of}
use Rattle.pw_model.specs.Operations.{control_of, register_of, set_on}

-- A child idles, its state enables state i of its container, and it bears that state's wake latency.
pub record Allows (P : Plan) (S : State) (n i : ℕ) (c : Child) : Type 0 where
  pub idles : 0 < (child_vote P S c).state
  pub enables : i ≤ (row_at (table_of P c) (child_vote P S c).state).parent
  pub bears : (row_at (container_at P n).idle i).latency ≤ (child_vote P S c).tolerance

-- Container n may be in state i: it has a child, the state is one of its table and enabled, and every child allows it.
pub record MayIdle (P : Plan) (S : State) (n i : ℕ) : Type 0 where
  pub some_child : 0 < length (children_at P n)
  pub from : 1 ≤ i
  pub within : i ≤ length (rows_of (container_at P n).idle)
  pub enabled : (row_at (container_at P n).idle i).enabled ≡ true
  pub allowed : AllByRecursion (Allows P S n i) (children_at P n)

-- Domain d lets processor p enter C state j: if it is an idle domain of p that software coordinates, about that state,
-- each member votes for the state or a deeper one (ACPI 6.5, 8.3).
abbrev pub LetsEnter : State → ℕ → ℕ → Domain → Type 0
LetsEnter S p j d = is_idle d.kind ≡ true → is_software d.coord ≡ true → has_member d.members p ≡ true → state_of d ≡ j
    → AllByRecursion (λ q. j ≤ (vote_of S q).state) d.members

-- Processor p may enter C state j: each domain lets it.
abbrev pub MayEnter : Plan → State → ℕ → ℕ → Type 0
MayEnter P S p j = AllByRecursion (LetsEnter S p j) P.domains

-- each member of domain d has a limit of at most t
abbrev pub LimitsWithin : Plan → State → ℕ → ℕ → Type 0
LimitsWithin P S d t = AllByRecursion (λ q. limit_of (domain_at P d).kind S q ≤ t) (domain_at P d).members

-- each member of domain d asks for t or a slower state
abbrev pub AsksFrom : Plan → State → ℕ → ℕ → Type 0
AsksFrom P S d t = AllByRecursion (λ q. t ≤ ask_of (domain_at P d).kind S q) (domain_at P d).members

-- State t is no faster than processor p's own limit and its own ask.
pub record IsBehindOwn (S : State) (kind : DomainKind) (p t : ℕ) : Type 0 where
  pub limit : limit_of kind S p ≤ t
  pub ask : ask_of kind S p ≤ t

-- The last value that the operations set in this register of the processor is v.
pub record IsLastSet (p : ℕ) (r : Register) (v : ℕ) (ops : List Op) : Type 0 where
  pub before : List Op
  pub later : List Op
  pub set : ops ≡ before ++ Set p r v ∷ later
  pub none_later : AllByRecursion (λ o. (w : ℕ) → o ≢ Set p r w) later

-- Domain d is of performance or throttling, fit, coordinated so, and p is one of its members.
pub record IsFitMember (P : Plan) (coord : Coord) (d p : ℕ) : Type 0 where
  pub exists : d < length P.domains
  pub kind : is_idle (domain_at P d).kind ≡ false
  pub coordinated : (domain_at P d).coord ≡ coord
  pub fit : (domain_at P d).unfit ≡ 0
  pub member : has_member (domain_at P d).members p ≡ true

-- the control register of a processor's performance or throttling states
abbrev pub control_register : DomainKind → CpuParts → Option Register
control_register kind c = option_and_then (λ (scale : Scale). scale.register) (scale_of kind c)

-- Where processor p has control registers for both its performance and its throttling states, they differ.
abbrev pub HasOwnRegisters : Plan → ℕ → Type 0
HasOwnRegisters P p = (r : Register) → control_register Perf (cpu_at P p) ≡ Some r → control_register Throttle (cpu_at P p) ≡ Some r → ⊥

-- the value that processor p's register has where its domain d stands
abbrev pub standing_value : Plan → State → ℕ → ℕ → ℕ
standing_value P S d p = control_of (scale_of (domain_at P d).kind (cpu_at P p)) (standing P S d p)

-- Processor p's register was last set to where domain d stands.
abbrev pub IsSetToStanding : Plan → State → ℕ → ℕ → List Op → Type 0
IsSetToStanding P S d p ops = IsLastSet p (register_of (scale_of (domain_at P d).kind (cpu_at P p))) (standing_value P S d p) ops

-- The last register for states of this kind that the operations set on any of these processors is set to state s.
pub record IsLastSetAmong (P : Plan) (kind : DomainKind) (members : List ℕ) (s : ℕ) (ops : List Op) : Type 0 where
  pub before : List Op
  pub later : List Op
  pub cpu : ℕ
  pub member : has_member members cpu ≡ true
  pub set : ops ≡ before ++ set_on P kind s cpu ∷ later
  pub none_later : (q : ℕ) → has_member members q ≡ true
      → AllByRecursion (λ o. (w : ℕ) → o ≢ Set q (register_of (scale_of kind (cpu_at P q))) w) later
