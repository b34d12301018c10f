use Rattle.std.proofs.Common.{◌≢◌, ◌<◌, ℕ}
use Rattle.pw_cppc.specs.Sound.{path_in}
use Rattle.pw_cppc.proofs.paths.is_new.Given as goal

abbrev pub invariant-loop-other : goal.invariant-loop-other
invariant-loop-other l = (p : ℕ) → p < l.other → path_in l.paths p ≢ path_in l.paths l.number
