use Rattle.std.proofs.Common.{◌≡◌, map, take}
use Rattle.pw_idle.proofs.node.no_counts.Given as goal

abbrev pub invariant-loop-row : goal.invariant-loop-row
invariant-loop-row l = l.counts.items ≡ map (λ r. 0) (take l._row-index l.rows)
