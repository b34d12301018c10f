use Rattle.std.proofs.Common.{◌≡◌, ◌<◌, ℕ, length}
use Rattle.pw_plan.specs.Parts.{cpu_in}
use Rattle.pw_cppc.specs.Parts.{parts_in}
use Rattle.pw_cppc.specs.Machine.{IsCppcOf}
use Rattle.pw_cppc.proofs.reading.cppc_parts.Given as goal

abbrev pub invariant-loop-cpu : goal.invariant-loop-cpu
invariant-loop-cpu l = record {
  count : length l.parts.items ≡ l.cpu-index;
  each : (p : ℕ) → p < length l.parts.items → IsCppcOf l.space (cpu_in l.plan.cpus p) (parts_in l.parts.items p);
}
