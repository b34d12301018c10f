use Rattle.std.proofs.Common.{◌≡◌, ◌<◌, ◌≤◌, ℕ, None}
use Rattle.pw_findings.specs.Firsts.{first_below, number_in, stood}
use Rattle.pw_findings.proofs.firsts.first_repeat.Given as goal

-- none of the numbers before k stood before it, and they are between the two
abbrev pub invariant-loop-k : goal.invariant-loop-k
invariant-loop-k l = (first_below (stood l.numbers) l.k ≡ None)
    × ((j : ℕ) → j < l.k → (l.least ≤ number_in l.numbers j) × (number_in l.numbers j ≤ l.most))
