use Rattle.std.proofs.Common.{◌≡◌, ◌≤◌, ◌+◌, length}
use Rattle.std.specs.Prelude.{sum_by}
use Rattle.pw_cppc.specs.Requests.{ops_bound}
use Rattle.pw_cppc_drive.specs.Reading.{operations}
use Rattle.pw_cppc_drive.proofs.parsing.has_too_many.Given as goal

abbrev pub invariant-loop-left : goal.invariant-loop-left
invariant-loop-left l = record {
  so_far : l.bound + sum_by (λ line. ops_bound l.plan line.request) l.left ≡ operations l.plan l.lines;
  small : l.bound ≤ 8589934592;
}

abbrev pub decreases-loop-left : goal.decreases-loop-left
decreases-loop-left l = length l.left
