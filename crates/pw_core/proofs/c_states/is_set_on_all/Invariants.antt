use Rattle.std.proofs.Common.{◌≡◌, ◌&&◌, drop}
use Rattle.std.specs.List.{list_any}
use Rattle.pw_plan.specs.declared.domain.Domain.{Domain}
use Rattle.pw_plan.specs.declared.index.Membership.{Membership}
use Rattle.pw_plan.specs.Places.{domain_at}
use Rattle.pw_model.specs.Domains.{governs, is_sw_all}
use Rattle.pw_core.proofs.c_states.is_set_on_all.Given as goal

abbrev pub invariant-loop-membership : goal.invariant-loop-membership
invariant-loop-membership l =
    list_any (λ (s : Membership). governs l.cpu l.level (domain_at l.plan s.place) && is_sw_all (domain_at l.plan s.place).coord) (drop l.membership-index l.membership-items)
    ≡ list_any (λ (d : Domain). governs l.cpu l.level d && is_sw_all d.coord) l.plan.domains
