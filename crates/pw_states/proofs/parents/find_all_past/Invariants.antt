use Rattle.std.proofs.Common.{◌≡◌, ◌++◌}
use Rattle.pw_findings.specs.Findings.{of_each}
use Rattle.pw_states.specs.Parents.{past}
use Rattle.pw_states.proofs.parents.find_all_past.Given as goal

abbrev pub invariant-loop-k : goal.invariant-loop-k
invariant-loop-k l = l.found.items ≡ l.initial.found.items ++ of_each l.k (past l.path l.container l.rows)
