use Rattle.std.proofs.Common.{◌≡◌, ◌++◌, ◌==◌, drop}
use Rattle.pw_plan.specs.Tree.{places_from}
use Rattle.pw_plan.specs.Groups.{label_at}
use Rattle.pw_plan.proofs.groups.group_with.Given as goal

abbrev pub invariant-loop-number : goal.invariant-loop-number
invariant-loop-number l =
    l.members.items ++ places_from (λ x. x == label_at l.labels l.cpu) l.number (drop l.number l.labels)
    ≡ places_from (λ x. x == label_at l.labels l.cpu) 0 l.labels
