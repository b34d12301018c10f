-- Why a request is refused, in words of its subject: each reason where none stands that is tried before it.
use Rattle.std.specs.Prelude.{◌≡◌, ◌≢◌, ◌<◌, ◌≤◌, ◌⊎◌, ℕ, min, true, false, length, is_some}
use Rattle.acpi_values.specs.Idle.{rows_of}
use Rattle.acpi_values.specs.declared.idle.IdleKind.TheVariants.{Absent}
use Rattle.pw_plan.specs.declared.domain.DomainKind.{DomainKind}
use Rattle.pw_plan.specs.declared.plan.Plan.{Plan}
use Rattle.pw_plan.specs.Firsts.{HasInKind, IsPlaceOfFirst, IsUnfitOf}
use Rattle.pw_plan.specs.Groups.{no_domain}
use Rattle.pw_plan.specs.Parts.{count_of, scale_of}
use Rattle.pw_plan.specs.Places.{cpu_at, domain_at, row_at}
use Rattle.pw_model.specs.declared.state.State.{State}
use Rattle.pw_model.specs.States.{limit_of}
use Rattle.pw_model.specs.Acceptance.{AreIdleDomainsFit, HasFitDomain}

-- # Idle requests

-- Processor p has idle states; its first unfit idle domain has this number, in 32 bits, and is unfit for this reason.
pub record NamesUnfit (P : Plan) (p number why : ℕ) : Type 0 where
  pub table : (cpu_at P p).idle.kind ≢ Absent
  pub domain : ℕ
  pub exists : domain < length P.domains
  pub first : IsPlaceOfFirst (IsUnfitOf p) no_domain P.domains domain
  pub number_is : number ≡ min domain 4294967295
  pub why_is : why ≡ (domain_at P domain).unfit

-- It has idle states, and its idle domains are fit.
pub record HasFitTable (P : Plan) (p : ℕ) : Type 0 where
  pub table : (cpu_at P p).idle.kind ≢ Absent
  pub domains : AreIdleDomainsFit P p

-- And it has no state s, but so many.
pub record HasNoState (P : Plan) (p s count : ℕ) : Type 0 where
  pub fit : HasFitTable P p
  pub none : (s ≡ 0) ⊎ (count < s)
  pub count_is : count ≡ length (rows_of (cpu_at P p).idle)

-- It has idle states, its idle domains are fit, and s is one of its states.
pub record HasState (P : Plan) (p s : ℕ) : Type 0 where
  pub fit : HasFitTable P p
  pub from : 1 ≤ s
  pub within : s ≤ length (rows_of (cpu_at P p).idle)

-- And this state isn't enabled.
pub record HasDisabled (P : Plan) (p s : ℕ) : Type 0 where
  pub state : HasState P p s
  pub disabled : (row_at (cpu_at P p).idle s).enabled ≡ false

-- Or it is enabled, and has this latency, which is above the tolerance.
pub record WakesTooSlowly (P : Plan) (p s tolerance latency : ℕ) : Type 0 where
  pub state : HasState P p s
  pub enabled : (row_at (cpu_at P p).idle s).enabled ≡ true
  pub latency_is : latency ≡ (row_at (cpu_at P p).idle s).latency
  pub above : tolerance < latency

-- # Requests on a domain of performance or throttling

-- Processor p has states of this kind; domain d is the one of this kind that has it, and is unfit for this reason.
pub record HasUnfitDomain (P : Plan) (kind : DomainKind) (p d why : ℕ) : Type 0 where
  pub scale : is_some (scale_of kind (cpu_at P p)) ≡ true
  pub domain : IsPlaceOfFirst (HasInKind kind p) no_domain P.domains d
  pub why_is : why ≡ (domain_at P d).unfit
  pub unfit : why ≢ 0

-- It has such states, its domain is fit, and there is no state i, but so many.
pub record HasNoSuchState (P : Plan) (kind : DomainKind) (p i count : ℕ) : Type 0 where
  pub domain : HasFitDomain P kind p
  pub none : count ≤ i
  pub count_is : count ≡ count_of (scale_of kind (cpu_at P p))

-- State i is one of its states, its domain is fit, and the state is faster than its own limit.
pub record AsksAboveLimit (P : Plan) (S : State) (kind : DomainKind) (p i limit : ℕ) : Type 0 where
  pub domain : HasFitDomain P kind p
  pub exists : i < count_of (scale_of kind (cpu_at P p))
  pub limit_is : limit ≡ limit_of kind S p
  pub above : i < limit
