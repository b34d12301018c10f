use Rattle.std.proofs.Common.{◌≡◌, ◌++◌, take}
use Rattle.std.specs.List.{flat_map}
use Rattle.pw_lint.specs.Passed.{passed_findings}
use Rattle.pw_lint.proofs.passed.find_passed.Given as goal

abbrev pub invariant-loop-term : goal.invariant-loop-term
invariant-loop-term l = l.found.items ≡ l.initial.found.items ++ flat_map passed_findings (take l.term-index l.passed)
