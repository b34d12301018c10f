use Rattle.std.proofs.Common.{length}
use Rattle.pw_model.specs.History.{Faultless}
use Rattle.pw_cases.proofs.played.telling.is_faultless.Given as goal

abbrev pub invariant-loop-left : goal.invariant-loop-left
invariant-loop-left l = Faultless l.left → Faultless l.entries

abbrev pub decreases-loop-left : goal.decreases-loop-left
decreases-loop-left l = length l.left
