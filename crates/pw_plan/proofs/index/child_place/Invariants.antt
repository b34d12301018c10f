use Rattle.std.proofs.Common.{◌≡◌, ◌+◌, drop}
use Rattle.std.specs.List.{position_or_len}
use Rattle.pw_plan.specs.Orderly.{is_same}
use Rattle.pw_plan.proofs.index.child_place.Given as goal

abbrev pub invariant-loop-place : goal.invariant-loop-place
invariant-loop-place l = l.place + position_or_len (is_same l.child) (drop l.place l.siblings) ≡ position_or_len (is_same l.child) l.siblings
