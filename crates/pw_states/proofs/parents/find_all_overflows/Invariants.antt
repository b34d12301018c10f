use Rattle.std.proofs.Common.{◌≡◌, ◌++◌}
use Rattle.pw_findings.specs.Findings.{of_each}
use Rattle.pw_states.specs.Parents.{sum_at}
use Rattle.pw_states.proofs.parents.find_all_overflows.Given as goal

abbrev pub invariant-loop-k : goal.invariant-loop-k
invariant-loop-k l = l.found.items ≡ l.initial.found.items ++ of_each l.k (sum_at l.path l.container l.rows)
