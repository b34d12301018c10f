use Rattle.std.proofs.Common.{◌≡◌, [], replicate}
use Rattle.pw_audit.proofs.Queueing.{queues_of}
use Rattle.pw_audit.proofs.queues.Queues.none.Given as goal

abbrev pub invariant-loop-cpu : goal.invariant-loop-cpu
invariant-loop-cpu g l = queues_of l.stacks.items ≡ replicate l._cpu []
