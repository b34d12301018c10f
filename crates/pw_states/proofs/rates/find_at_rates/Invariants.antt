use Rattle.std.proofs.Common.{◌≡◌, ◌++◌}
use Rattle.pw_findings.specs.Findings.{of_each}
use Rattle.pw_findings.specs.Scales.{rate_at}
use Rattle.pw_states.proofs.rates.find_at_rates.Given as goal

abbrev pub invariant-loop-k : goal.invariant-loop-k
invariant-loop-k l = l.found.items ≡ l.initial.found.items ++ of_each l.k (rate_at l.kind l.path l.rates)
