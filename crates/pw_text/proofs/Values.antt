-- Digits only make a number greater.
use Rattle.std.proofs.Common.{◌≡◌, ◌≤◌, ◌<◌, ◌+◌, ◌*◌, ◌-◌, ℕ, true, List, [], ◌∷◌, length, get_or, arith, lt-ltb}
use Rattle.pw_text.specs.Forms.{value_from, is_large}

pub value_from_ge : (n : ℕ) (digits : List ℕ) → n ≤ value_from n digits
value_from_ge n [] = omega arith
value_from_ge n (d ∷ digits) = let more = value_from_ge (10 * n + (d - 48)) digits in omega arith

pub value_large : (n total : ℕ) (xs : List ℕ) → 1 ≤ length xs → 4294967295 < 10 * n + (get_or xs 0 0 - 48) → value_from n xs ≡ total → is_large total ≡ true
value_large n total [] le lt e = absurd (omega arith)
value_large n total (d ∷ digits) le lt e = let more = value_from_ge (10 * n + (d - 48)) digits in lt-ltb 4294967295 total (omega (arith, e))
