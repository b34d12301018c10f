use Rattle.std.proofs.Common.{◌≡◌, ◌++◌, map, take}
use Rattle.pw_lint.specs.Notes.{fault_finding}
use Rattle.pw_lint.proofs.notes.find_in_faults.Given as goal

abbrev pub invariant-loop-fault : goal.invariant-loop-fault
invariant-loop-fault l = l.found.items ≡ l.initial.found.items ++ map fault_finding (take l.fault-index l.faults)
