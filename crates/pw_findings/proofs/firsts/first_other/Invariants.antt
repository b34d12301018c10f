use Rattle.std.proofs.Common.{◌≡◌, None}
use Rattle.pw_findings.specs.Firsts.{differ_at, first_below}
use Rattle.pw_findings.proofs.firsts.first_other.Given as goal

abbrev pub invariant-loop-k : goal.invariant-loop-k
invariant-loop-k l = first_below (differ_at l.one l.other) l.k ≡ None
