use Rattle.std.proofs.Common.{◌≡◌, ◌++◌}
use Rattle.pw_findings.specs.Findings.{of_each}
use Rattle.pw_states.specs.Idle.{state_findings}
use Rattle.pw_states.proofs.idle.find_in_idle.Given as goal

abbrev pub invariant-loop-k : goal.invariant-loop-k
invariant-loop-k l = l.found.items ≡ l.initial.found.items ++ of_each l.k (state_findings l.path l.table.kind l.rows)
