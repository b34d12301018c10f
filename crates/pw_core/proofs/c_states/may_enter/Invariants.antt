use Rattle.std.proofs.Common.{◌≡◌, ◌||◌, not, drop}
use Rattle.std.specs.List.{list_all}
use Rattle.pw_plan.specs.declared.index.Membership.{Membership}
use Rattle.pw_plan.specs.Places.{domain_at}
use Rattle.pw_model.specs.States.{with_change}
use Rattle.pw_model.specs.Domains.{governs, is_gathered, may_enter}
use Rattle.pw_core.proofs.c_states.may_enter.Given as goal

abbrev pub invariant-loop-membership : goal.invariant-loop-membership
invariant-loop-membership l =
    list_all (λ (s : Membership). not (governs l.cpu l.level (domain_at l.plan s.place)) || is_gathered (with_change l.state l.change) (domain_at l.plan s.place))
    (drop l.membership-index l.membership-items)
    ≡ may_enter l.plan (with_change l.state l.change) l.cpu l.level
