-- Sums over the elements of a list, 1 for what is so, bounds of what may not be there, and turns that name who has them.
use Rattle.std.specs.Prelude.{◌≡◌, ℕ, suc, ◌+◌, ◌≤◌, Bool, List, [], ◌∷◌, Option, Some, None, ◌==◌, nat_lt, cond}

-- what is counted of each element, summed up
abbrev pub total : {A : Type 0} → (A → ℕ) → List A → ℕ
total f [] = 0
total f (x ∷ xs) = f x + total f xs

-- 1 for what is so, else 0
abbrev pub bit : Bool → ℕ
bit b = cond b 1 0

-- 1 for a number below the number made
abbrev pub once_below : ℕ → ℕ → ℕ
once_below n made = bit (nat_lt n made)

-- 1 where a turn names seat n: a turn is 0 where it is free, else its holder's number and 1
abbrev pub names : ℕ → ℕ → ℕ
names turn n = bit (turn == suc n)

-- what is there is at most this
abbrev pub AtMost : Option ℕ → ℕ → Type 0
AtMost None n = Unit {0}
AtMost (Some k) n = k ≤ n

-- # A turn that names who has it

-- by the number of a seat's view, and how often it has the turn
module _ {V : Type 0} (number : V → ℕ) where
  -- what the view has, where it has this number
  abbrev pub as_number : ℕ → (V → ℕ) → V → ℕ
  as_number n has v = cond (number v == n) (has v) 0

  -- the turn names n exactly where the view numbered n has it, and it has it once
  abbrev pub Named : ℕ → (V → ℕ) → List V → Type 0
  Named turn has views = (n : ℕ) → total (as_number n has) views ≡ names turn n
