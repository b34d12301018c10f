-- The record of a domain of performance or throttling: what it holds, and of which plan it is.
use Rattle.std.specs.Prelude.{◌≡◌, ◌<◌, length, false}
use Rattle.pw_plan.specs.declared.plan.Plan.{Plan}
use Rattle.pw_plan.specs.Groups.{is_idle}
use Rattle.pw_plan.specs.Places.{domain_at}
use Rattle.pw_model.specs.Records.{Part, levels}
use Rattle.pw_model.specs.Holding.{HoldsLevels}
use Rattle.pw_domain.specs.declared.domain.DomainRec.{DomainRec}

-- the part of a state that it holds
abbrev pub domain_part : DomainRec → Part
domain_part r = levels r.asks r.limits

-- It is the record of domain `r.domain` of the plan, one of performance or throttling: it holds an ask and a limit for each member.
pub record IsDomainOf (P : Plan) (r : DomainRec) : Type 0 where
  pub exists : r.domain < length P.domains
  pub scaled : is_idle (domain_at P r.domain).kind ≡ false
  pub coord : r.coord ≡ (domain_at P r.domain).coord
  pub holds : HoldsLevels P r.domain r.asks r.limits
