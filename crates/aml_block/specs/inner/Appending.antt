-- Bytes that are appended to a vector.
use Rattle.std.specs.Prelude.{◌≡◌, ℕ, Bool, true, false, List, ◌++◌, length, take}

-- A list grew by these bytes, or, where memory ran out, at least what it was before still stands in front.
abbrev pub Appends : List ℕ → List ℕ → List ℕ → Bool → Type 0
Appends old new bytes true = new ≡ old ++ bytes
Appends old new bytes false = take (length old) new ≡ old
