use Rattle.std.proofs.Common.{◌≡◌, ◌<◌, ℕ, true}
use Rattle.pw_plan.specs.Parts.{container_in, is_below}
use Rattle.pw_plan.proofs.parts_check.parents_fall.Given as goal

abbrev pub invariant-loop-number : goal.invariant-loop-number
invariant-loop-number l = (n : ℕ) → n < l.number → is_below n (container_in l.containers n).parent ≡ true
