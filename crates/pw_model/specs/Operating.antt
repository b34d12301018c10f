-- What is operated, and in which order, in words of its subject.
use Rattle.std.specs.Prelude.{◌≡◌, ◌≢◌, ◌<◌, ℕ, false, true, List, [], ◌∷◌, map, length}
use Rattle.std.specs.List.{flat_map, range_with_len}
use Rattle.std.specs.List.Sorted.{IsStrictlyIncreasing}
use Rattle.acpi_values.specs.declared.dependency.Coord.TheVariants.{SwAll, SwAny}
use Rattle.acpi_values.specs.declared.idle.IdleKind.TheVariants.{Cst}
use Rattle.acpi_values.specs.declared.operation.Op.{Op}
use Rattle.acpi_values.specs.declared.operation.Op.TheVariants.{Enter}
use Rattle.pw_plan.specs.declared.domain.Domain.{Domain}
use Rattle.pw_plan.specs.declared.domain.DomainKind.{DomainKind}
use Rattle.pw_plan.specs.declared.plan.Plan.{Plan}
use Rattle.pw_plan.specs.Groups.{has_member, is_idle}
use Rattle.pw_plan.specs.Places.{cpu_at, domain_at}
use Rattle.pw_model.specs.declared.state.State.{State}
use Rattle.pw_model.specs.States.{opening}
use Rattle.pw_model.specs.Answers.{states_of}
use Rattle.pw_model.specs.Composites.{composite_of}
use Rattle.pw_model.specs.Domains.{c_state, standing}
use Rattle.pw_model.specs.Operations.{set_on}

-- # Performance and throttling (ACPI 6.5, 8.3, 8.4.5.1)

-- Between two states the operations set where domain d of processor p stands anew: nothing where it stands as before; else
-- each member of a SW_ALL domain, in their order, and p alone of another.
pub record SetsNewStanding (P : Plan) (S T : State) (kind : DomainKind) (d p : ℕ) (ops : List Op) : Type 0 where
  pub stays : standing P S d p ≡ standing P T d p → ops ≡ []
  pub all : standing P S d p ≢ standing P T d p → (domain_at P d).coord ≡ SwAll
      → ops ≡ map (set_on P kind (standing P T d p)) (domain_at P d).members
  pub alone : standing P S d p ≢ standing P T d p → (domain_at P d).coord ≢ SwAll
      → ops ≡ set_on P kind (standing P T d p) p ∷ []

-- # Idle states (ACPI 6.5, 8.3, 8.4.3.3)

-- processor q enters what its chain of states makes
abbrev pub entry_in : Plan → State → ℕ → Op
entry_in P T q = Enter q (composite_of P q (states_of P T q))

-- These are entries by other processors than p, by rising number, each once.
pub record EnterAfter (P : Plan) (T : State) (p : ℕ) (ops : List Op) : Type 0 where
  pub cpus : List ℕ
  pub are : ops ≡ map (entry_in P T) cpus
  pub rising : IsStrictlyIncreasing cpus
  pub others : has_member cpus p ≡ false

-- Processor p enters first, unless it has C states and comes to none; then the others enter.
pub record EntersFirst (P : Plan) (T : State) (p : ℕ) (ops : List Op) : Type 0 where
  pub later : List Op
  pub own : ((cpu_at P p).idle.kind ≡ Cst → 0 < c_state P T p) → ops ≡ entry_in P T p ∷ later
  pub none : (cpu_at P p).idle.kind ≡ Cst → c_state P T p ≡ 0 → ops ≡ later
  pub others : EnterAfter P T p later

-- # The start

-- the domain is of performance or throttling, and fit
abbrev pub IsSettable : Domain → Type 0
IsSettable d = (is_idle d.kind ≡ false) × (d.unfit ≡ 0)

-- sets on processor p where domain d stands at the start
abbrev pub start_on : Plan → ℕ → ℕ → Op
start_on P d p = set_on P (domain_at P d).kind (standing P (opening P) d p) p

-- The operations start domain d: none if it is idle or unfit; else it is set on its first member if it is SW_ANY, and on each,
-- in their order, if it is another.
pub record StartsDomain (P : Plan) (d : ℕ) (ops : List Op) : Type 0 where
  pub idle : is_idle (domain_at P d).kind ≡ true → ops ≡ []
  pub unfit : (domain_at P d).unfit ≢ 0 → ops ≡ []
  pub any : IsSettable (domain_at P d) → (domain_at P d).coord ≡ SwAny → (p : ℕ) (ps : List ℕ) → (domain_at P d).members ≡ p ∷ ps
      → ops ≡ start_on P d p ∷ []
  pub each : IsSettable (domain_at P d) → (domain_at P d).coord ≢ SwAny → ops ≡ map (start_on P d) (domain_at P d).members

-- They start each domain, in the order of the domains.
pub record StartsAll (P : Plan) (ops : List Op) : Type 0 where
  pub of_domain : ℕ → List Op
  pub are : ops ≡ flat_map of_domain (range_with_len 0 (length P.domains))
  pub each : (d : ℕ) → StartsDomain P d (of_domain d)
