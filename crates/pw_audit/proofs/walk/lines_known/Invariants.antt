use Rattle.std.proofs.Common.{length, map}
use Rattle.std.specs.List.{AllByRecursion}
use Rattle.pw_audit.proofs.walk.lines_known.Given as goal

abbrev pub invariant-loop-left : goal.invariant-loop-left
invariant-loop-left g l =
    AllByRecursion g.T.Audited.is_narrow_request (map g.T.Audited.ask l.left) → AllByRecursion g.T.Audited.is_narrow_request (map g.T.Audited.ask l.lines)

abbrev pub decreases-loop-left : goal.decreases-loop-left
decreases-loop-left g l = length l.left
