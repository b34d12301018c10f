use Rattle.std.proofs.Common.{length}
use Rattle.std.specs.List.{AllByRecursion}
use Rattle.pw_script.specs.Telling.{IsNarrow}
use Rattle.pw_script.proofs.text_values.entries_are_narrow.Given as goal

abbrev pub invariant-loop-left : goal.invariant-loop-left
invariant-loop-left l = AllByRecursion IsNarrow l.left → AllByRecursion IsNarrow l.entries

abbrev pub decreases-loop-left : goal.decreases-loop-left
decreases-loop-left l = length l.left
