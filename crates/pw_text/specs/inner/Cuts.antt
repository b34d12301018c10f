-- What cutting off the first part tells.
use Rattle.std.specs.Prelude.{ℕ, List, [], ◌∷◌, Option, Some, None}
use Rattle.pw_text.specs.Fields.{parts}

abbrev pub parts_after : ℕ → List ℕ → Option (List ℕ) → List (List ℕ)
parts_after b part None = part ∷ []
parts_after b part (Some rest) = part ∷ parts b rest
