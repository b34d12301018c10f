use Rattle.std.proofs.Common.{◌≡◌, ◌<◌, ◌≤◌, ◌+◌, ℕ, length, get_or, set}
use Rattle.acpi_values.specs.Idle.{rows_of}
use Rattle.pw_plan.specs.Places.{children_at, container_at}
use Rattle.pw_idle.specs.Nodes.{allows_state, counted}
use Rattle.pw_idle.proofs.node.recount.Given as goal

abbrev pub invariant-loop-at : goal.invariant-loop-at
invariant-loop-at l = record {
  rows : length l.allowing ≡ length (rows_of (container_at l.plan l.node).idle);
  done : (j : ℕ) → j < l.at → get_or l.allowing j 0 ≡ counted (allows_state l.plan l.node (j + 1)) (children_at l.plan l.node) (set l.votes l.place l.vote);
  left : (j : ℕ) → l.at ≤ j → j < length (rows_of (container_at l.plan l.node).idle) → get_or l.allowing j 0 ≡ counted (allows_state l.plan l.node (j + 1)) (children_at l.plan l.node) l.votes;
}
