use Rattle.std.proofs.Common.{◌≡◌, ◌+◌, drop}
use Rattle.std.specs.List.{position_or_len}
use Rattle.pw_plan.specs.declared.domain.Group.{Group}
use Rattle.pw_plan.specs.Groups.{has_member}
use Rattle.pw_plan.proofs.index.group_membership.Given as goal

abbrev pub invariant-loop-place : goal.invariant-loop-place
invariant-loop-place l =
    l.place + position_or_len (λ (g : Group). has_member g.members l.cpu) (drop l.place l.groups)
    ≡ position_or_len (λ (g : Group). has_member g.members l.cpu) l.groups
