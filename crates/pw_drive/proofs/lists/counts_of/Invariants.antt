use Rattle.std.proofs.Common.{◌≡◌, length}
use Rattle.pw_drive.proofs.lists.counts_of.Given as goal

abbrev pub invariant-loop-line : goal.invariant-loop-line
invariant-loop-line l = length l.counts.items ≡ length l.plan.cpus
