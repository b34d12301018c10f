-- Members of a list of numbers.
use Rattle.std.proofs.Common.{◌≡◌, ◌==◌, ℕ, true, List, get_or, arith}
use Rattle.std.specs.List.{AllByRecursion}
use Rattle.std.proofs.lemmas.Bool.Decides.{nat_tests}
use Rattle.std.proofs.lemmas.List.Elements.{recursion_from_All}
use Rattle.pw_plan.specs.Groups.{has_member}
use Rattle.pw_plan.proofs.Lists.{any_at}

pub same_number : (a b : ℕ) → (a == b) ≡ true → a ≡ b
same_number a b e = grind (arith, nat_tests)

pub own_number : (a : ℕ) → (a == a) ≡ true
own_number a = grind (arith, nat_tests)

pub each_member : (ms : List ℕ) → AllByRecursion (λ p. has_member ms p ≡ true) ms
each_member ms = recursion_from_All (λ p. has_member ms p ≡ true) ms (λ i d lt. any_at (λ q. q == get_or ms i d) ms i d lt (own_number (get_or ms i d)))
