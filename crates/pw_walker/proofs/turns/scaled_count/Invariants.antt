use Rattle.std.proofs.Common.{◌-◌, ◌≤◌, length}
use Rattle.pw_model.specs.Records.{scaled_count}
use Rattle.pw_walker.proofs.turns.scaled_count.Given as goal

abbrev pub invariant-loop-low : goal.invariant-loop-low
invariant-loop-low l = record {
  low : l.low ≤ scaled_count l.plan;
  high : scaled_count l.plan ≤ l.high;
  within : l.high ≤ length l.plan.domains;
}

abbrev pub decreases-loop-low : goal.decreases-loop-low
decreases-loop-low l = l.high - l.low
