use Rattle.std.proofs.Common.{◌≡◌, ◌+◌, drop}
use Rattle.std.specs.List.{position_or_len}
use Rattle.pw_plan.specs.Covering.{covers}
use Rattle.pw_plan.proofs.index.first_membership.Given as goal

abbrev pub invariant-loop-place : goal.invariant-loop-place
invariant-loop-place l = l.place + position_or_len (covers l.kind l.cpu) (drop l.place l.domains) ≡ position_or_len (covers l.kind l.cpu) l.domains
