use Rattle.std.proofs.Common.{◌≡◌, ◌+◌, drop}
use Rattle.pw_plan.specs.Index.{member_place}
use Rattle.pw_plan.proofs.index.member_place.Given as goal

abbrev pub invariant-loop-place : goal.invariant-loop-place
invariant-loop-place l = l.place + member_place (drop l.place l.members) l.cpu ≡ member_place l.members l.cpu
