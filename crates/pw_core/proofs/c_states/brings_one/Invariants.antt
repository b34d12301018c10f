use Rattle.std.proofs.Common.{◌≡◌, drop}
use Rattle.std.specs.List.{list_any}
use Rattle.pw_plan.specs.declared.index.Membership.{Membership}
use Rattle.pw_plan.specs.Places.{domain_at}
use Rattle.pw_model.specs.States.{with_change}
use Rattle.pw_core.specs.inner.Drawn.{brought_by}
use Rattle.pw_core.proofs.c_states.brings_one.Given as goal

abbrev pub invariant-loop-membership : goal.invariant-loop-membership
invariant-loop-membership l =
    let T = with_change l.state l.change in
    list_any (λ (s : Membership). brought_by l.state T l.cpu (domain_at l.plan s.place)) (drop l.membership-index l.membership-items) ≡ list_any (brought_by l.state T l.cpu) l.plan.domains
