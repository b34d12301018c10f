-- Numbers and lists in lines.
use Rattle.std.specs.Prelude.{ℕ, ◌+◌, List, [], ◌∷◌, ◌++◌, decimal}

-- two numbers with a dot between
abbrev pub pair_text : ℕ → ℕ → List ℕ
pair_text first second = decimal first ++ 46 ∷ decimal second

-- the texts of elements by their numbers, that of the first being k
abbrev pub numbered : {X : Type 0} → (ℕ → X → List ℕ) → ℕ → List X → List ℕ
numbered text k [] = []
numbered text k (x ∷ xs) = text k x ++ numbered text (k + 1) xs
