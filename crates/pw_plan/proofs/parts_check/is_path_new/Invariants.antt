use Rattle.std.proofs.Common.{◌≢◌, ◌<◌, ℕ}
use Rattle.pw_plan.specs.Parts.{cpu_in}
use Rattle.pw_plan.proofs.parts_check.is_path_new.Given as goal

abbrev pub invariant-loop-other : goal.invariant-loop-other
invariant-loop-other l = (p : ℕ) → p < l.other → (cpu_in l.cpus p).path ≢ (cpu_in l.cpus l.number).path
