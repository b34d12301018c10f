use Rattle.std.proofs.Common.{◌-◌, ◌<◌, ◌≤◌}
use Rattle.pw_show.proofs.json_strings.first_piece.Given as goal

abbrev pub invariant-loop-size : goal.invariant-loop-size
invariant-loop-size l = record { some : 0 < l.size; within : l.size ≤ l.most }

abbrev pub decreases-loop-size : goal.decreases-loop-size
decreases-loop-size l = l.most - l.size
