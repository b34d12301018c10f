use Rattle.std.proofs.Common.{◌≡◌, drop}
use Rattle.std.specs.List.{list_any}
use Rattle.pw_plan.specs.Parts.{is_entry}
use Rattle.pw_plan.proofs.parts_check.is_repeated.Given as goal

abbrev pub invariant-loop-other : goal.invariant-loop-other
invariant-loop-other l = list_any (is_entry l.entry.domain l.entry.index) (drop l.other-index l.others) ≡ list_any (is_entry l.entry.domain l.entry.index) l.others
