use Rattle.std.proofs.Common.{◌≡◌, ◌+◌, ◌<◌, ℕ, length, Some}
use Rattle.pw_plan.specs.Tree.{depth_of, line_from}
use Rattle.pw_plan.proofs.limits.depth_of.Given as goal

abbrev pub invariant-loop-next : goal.invariant-loop-next
invariant-loop-next l = record {
  count : l.depth + length (line_from l.containers l.next) ≡ depth_of l.containers l.node;
  within : (k : ℕ) → l.next ≡ Some k → k < length l.containers;
}

abbrev pub decreases-loop-next : goal.decreases-loop-next
decreases-loop-next l = length (line_from l.containers l.next)
