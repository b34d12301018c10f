-- How the index is computed.
use Rattle.std.specs.Prelude.{◌==◌, not, Bool, List}
use Rattle.pw_plan.specs.declared.domain.Domain.{Domain}
use Rattle.pw_plan.specs.declared.index.Membership.{Membership}
use Rattle.pw_plan.specs.Groups.{domain_in}

-- whether the domain of a membership can't be coordinated
abbrev pub shows_unfit : List Domain → Membership → Bool
shows_unfit ds s = not ((domain_in ds s.place).unfit == 0)
