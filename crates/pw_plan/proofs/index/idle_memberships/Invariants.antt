use Rattle.std.proofs.Common.{◌≡◌, ◌++◌, map, drop}
use Rattle.pw_plan.specs.declared.domain.DomainKind.TheVariants.{Idle}
use Rattle.pw_plan.specs.Index.{idle_memberships, membership_in}
use Rattle.pw_plan.specs.Covering.{covers}
use Rattle.pw_plan.specs.Tree.{places_from}
use Rattle.pw_plan.proofs.index.idle_memberships.Given as goal

abbrev pub invariant-loop-place : goal.invariant-loop-place
invariant-loop-place l =
    l.memberships.items ++ map (membership_in l.domains l.cpu) (places_from (covers Idle l.cpu) l.place (drop l.place l.domains)) ≡ idle_memberships l.domains l.cpu
