use Rattle.std.proofs.Common.{◌≢◌, ◌<◌, ℕ}
use Rattle.pw_cppc.specs.Sound.{path_in}
use Rattle.pw_cppc.proofs.paths.paths_differ.Given as goal

abbrev pub invariant-loop-number : goal.invariant-loop-number
invariant-loop-number l = (p q : ℕ) → p < q → q < l.number → path_in l.paths p ≢ path_in l.paths q
