use Rattle.std.proofs.Common.{◌≡◌, drop, get_or}
use Rattle.pw_plan.specs.Groups.{join_members, join_with}
use Rattle.pw_plan.proofs.groups.join_members.Given as goal

abbrev pub invariant-loop-member : goal.invariant-loop-member
invariant-loop-member l = join_with (get_or l.members 0 0) (drop l.member-index l.member-items) l.labels ≡ join_members l.members l.initial.labels
