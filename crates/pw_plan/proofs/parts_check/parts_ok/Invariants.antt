use Rattle.std.proofs.Common.{◌≡◌, ◌<◌, ℕ, true, length}
use Rattle.pw_plan.specs.Parts.{FitsCsd, cpu_in, has_states, is_below}
use Rattle.pw_plan.proofs.parts_check.parts_ok.Given as goal

abbrev pub invariant-loop-cpu : goal.invariant-loop-cpu
invariant-loop-cpu l = record {
  processors : (p : ℕ) → p < l.cpu-index → is_below (length l.containers) (cpu_in l.cpus p).parent ≡ true;
  perf : (p : ℕ) → p < l.cpu-index → has_states (cpu_in l.cpus p).perf ≡ true;
  throttle : (p : ℕ) → p < l.cpu-index → has_states (cpu_in l.cpus p).throttle ≡ true;
  csd : (p : ℕ) → p < l.cpu-index → FitsCsd (cpu_in l.cpus p);
}
