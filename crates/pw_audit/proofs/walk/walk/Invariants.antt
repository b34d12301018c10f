use Rattle.std.proofs.Common.{◌≤◌, length, map}
use Rattle.pw_audit.specs.inner.Stopping.{known}
use Rattle.pw_audit.specs.inner.Walking.{Walked}
use Rattle.pw_audit.proofs.walk.walk.Given as goal

abbrev pub invariant-loop-left : goal.invariant-loop-left
invariant-loop-left g l = record {
  walked : Walked g.T.Audited.words g.T.Audited.fits l.form l.plan (known g.T.Audited.words l.plan (map g.T.Audited.ask l.lines)) l.text l.entries.items l.state l.asked l.passed l.left;
  room : g.T.Audited.most l.plan ≤ l.ops.capacity;
}

abbrev pub decreases-loop-left : goal.decreases-loop-left
decreases-loop-left g l = length l.left
