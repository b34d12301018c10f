use Rattle.std.proofs.Common.{◌≤◌, drop, length}
use Rattle.pw_text.specs.Looking.{LeadsTo}
use Rattle.pw_script.specs.Forms.{segs_of}
use Rattle.pw_script.proofs.index.names_of.Given as goal

abbrev pub invariant-loop-number : goal.invariant-loop-number
invariant-loop-number l = record {
  within : l.number ≤ length l.plan.cpus;
  leads : LeadsTo segs_of l.number (drop l.number l.plan.cpus) l.index;
}

abbrev pub decreases-loop-number : goal.decreases-loop-number
decreases-loop-number l = l.number
