use Rattle.std.proofs.Common.{◌≡◌, drop}
use Rattle.std.specs.List.{list_any}
use Rattle.pw_plan.specs.declared.index.Membership.{Membership}
use Rattle.pw_plan.specs.Places.{domain_at}
use Rattle.pw_domain.specs.inner.Brought.{brought_by}
use Rattle.pw_domain.proofs.group.brings_one.Given as goal

abbrev pub invariant-loop-membership : goal.invariant-loop-membership
invariant-loop-membership l =
    list_any (λ (s : Membership). brought_by l.members l.states l.place l.own l.cpu (domain_at l.plan s.place)) (drop l.membership-index l.membership-items)
    ≡ list_any (brought_by l.members l.states l.place l.own l.cpu) l.plan.domains
