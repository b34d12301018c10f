use Rattle.std.proofs.Common.{◌≡◌, ◌<◌, ◌≤◌, ◌++◌, ℕ, length, map, take}
use Rattle.pw_history.specs.Asked.{own}
use Rattle.pw_audit.specs.inner.Queues.{left_of}
use Rattle.pw_audit.proofs.asked.asked_by.Given as goal

abbrev pub invariant-loop-at : goal.invariant-loop-at
invariant-loop-at g l = record {
  within : l.at ≤ length l.lines;
  size : length l.asked ≡ l.cpus;
  each : (p : ℕ) → p < l.cpus → own g.T.Audited.words p (take l.at (map g.T.Audited.ask l.lines)) ++ left_of l.asked p ≡ own g.T.Audited.words p (map g.T.Audited.ask l.lines);
}

abbrev pub decreases-loop-at : goal.decreases-loop-at
decreases-loop-at g l = l.at
