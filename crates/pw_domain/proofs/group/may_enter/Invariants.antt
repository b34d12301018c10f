use Rattle.std.proofs.Common.{◌≡◌, ◌||◌, not, drop, set}
use Rattle.std.specs.List.{list_all}
use Rattle.pw_plan.specs.declared.index.Membership.{Membership}
use Rattle.pw_plan.specs.Places.{domain_at}
use Rattle.pw_model.specs.Domains.{governs}
use Rattle.pw_model.specs.Effects.{enters_by, gathered_by}
use Rattle.pw_domain.proofs.group.may_enter.Given as goal

abbrev pub invariant-loop-membership : goal.invariant-loop-membership
invariant-loop-membership l =
    list_all (λ (s : Membership). not (governs l.cpu l.level (domain_at l.plan s.place)) || gathered_by l.members (set l.states l.place l.own) (domain_at l.plan s.place))
    (drop l.membership-index l.membership-items)
    ≡ enters_by l.plan l.members (set l.states l.place l.own) l.cpu l.level
