use Rattle.std.proofs.Common.{◌≡◌, length}
use Rattle.pw_cppc.specs.History.{fault_at}
use Rattle.pw_runs.proofs.cppc_print.fault_in.Given as goal

abbrev pub invariant-loop-left : goal.invariant-loop-left
invariant-loop-left l = fault_at l.left ≡ fault_at l.entries

abbrev pub decreases-loop-left : goal.decreases-loop-left
decreases-loop-left l = length l.left
