use Rattle.std.proofs.Common.{◌≤◌, drop, length}
use Rattle.pw_audit.specs.inner.Looking.{LeadsTo}
use Rattle.pw_audit.proofs.index.index_of.Given as goal

abbrev pub invariant-loop-number : goal.invariant-loop-number
invariant-loop-number l = record {
  within : l.number ≤ length l.paths;
  leads : LeadsTo l.number (drop l.number l.paths) l.index;
}

abbrev pub decreases-loop-number : goal.decreases-loop-number
decreases-loop-number l = l.number
