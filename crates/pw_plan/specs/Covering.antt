-- Whom a domain covers.
use Rattle.std.specs.Prelude.{◌&&◌, ℕ, Bool, true, false}
use Rattle.pw_plan.specs.declared.domain.Domain.{Domain}
use Rattle.pw_plan.specs.declared.domain.DomainKind.{DomainKind}
use Rattle.pw_plan.specs.declared.domain.DomainKind.TheVariants.{Perf, Throttle, Idle}
use Rattle.pw_plan.specs.Groups.{has_member}

abbrev pub same_kind : DomainKind → DomainKind → Bool
same_kind Perf Perf = true
same_kind Throttle Throttle = true
same_kind Idle Idle = true
same_kind Perf Throttle = false
same_kind Perf Idle = false
same_kind Throttle Perf = false
same_kind Throttle Idle = false
same_kind Idle Perf = false
same_kind Idle Throttle = false

-- whether the domain is of this kind and has the processor
abbrev pub covers : DomainKind → ℕ → Domain → Bool
covers kind p d = same_kind d.kind kind && has_member d.members p
