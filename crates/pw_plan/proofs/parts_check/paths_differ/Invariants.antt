use Rattle.std.proofs.Common.{◌≡◌, ◌≢◌, ◌<◌, ℕ, false}
use Rattle.pw_plan.specs.Parts.{cpu_in}
use Rattle.pw_plan.specs.inner.Paths.{is_path_before}
use Rattle.pw_plan.proofs.parts_check.paths_differ.Given as goal

abbrev pub invariant-loop-number : goal.invariant-loop-number
invariant-loop-number l = record {
  differ : (p q : ℕ) → p < q → q < l.number → (cpu_in l.cpus p).path ≢ (cpu_in l.cpus q).path;
  greatest : (p : ℕ) → p < l.number → is_path_before l.greatest (cpu_in l.cpus p).path.segs ≡ false;
}
