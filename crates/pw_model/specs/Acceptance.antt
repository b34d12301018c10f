-- When requests are accepted, in words of their subject.
use Rattle.std.specs.Prelude.{◌≡◌, ◌≢◌, ◌<◌, ◌≤◌, ℕ, true, length, is_some}
use Rattle.std.specs.List.{AllByRecursion}
use Rattle.acpi_values.specs.Idle.{rows_of}
use Rattle.acpi_values.specs.declared.idle.IdleKind.TheVariants.{Absent}
use Rattle.pw_plan.specs.declared.domain.Domain.{Domain}
use Rattle.pw_plan.specs.declared.domain.DomainKind.{DomainKind}
use Rattle.pw_plan.specs.declared.plan.Plan.{Plan}
use Rattle.pw_plan.specs.Groups.{has_member, is_idle}
use Rattle.pw_plan.specs.Parts.{count_of, scale_of}
use Rattle.pw_plan.specs.Places.{cpu_at, domain_at, domain_of, row_at}
use Rattle.pw_model.specs.declared.state.State.{State}
use Rattle.pw_model.specs.States.{limit_of}

-- each idle domain of processor p is fit
abbrev pub AreIdleDomainsFit : Plan → ℕ → Type 0
AreIdleDomainsFit P p = AllByRecursion (λ (d : Domain). is_idle d.kind ≡ true → has_member d.members p ≡ true → d.unfit ≡ 0) P.domains

-- Processor p may idle in state s: its idle domains are fit, and the state is one of its table, is enabled and wakes within
-- this tolerance.
pub record MayIdleIn (P : Plan) (p s tolerance : ℕ) : Type 0 where
  pub table : (cpu_at P p).idle.kind ≢ Absent
  pub domains : AreIdleDomainsFit P p
  pub from : 1 ≤ s
  pub within : s ≤ length (rows_of (cpu_at P p).idle)
  pub enabled : (row_at (cpu_at P p).idle s).enabled ≡ true
  pub wakes : (row_at (cpu_at P p).idle s).latency ≤ tolerance

-- Processor p has states of this kind, and its domain is fit.
pub record HasFitDomain (P : Plan) (kind : DomainKind) (p : ℕ) : Type 0 where
  pub scale : is_some (scale_of kind (cpu_at P p)) ≡ true
  pub fit : (domain_at P (domain_of P kind p)).unfit ≡ 0

-- Processor p may ask for state i: its domain is fit, and the state exists and is no faster than the processor's own limit.
pub record MayAskFor (P : Plan) (S : State) (kind : DomainKind) (p i : ℕ) : Type 0 where
  pub domain : HasFitDomain P kind p
  pub exists : i < count_of (scale_of kind (cpu_at P p))
  pub slow : limit_of kind S p ≤ i
