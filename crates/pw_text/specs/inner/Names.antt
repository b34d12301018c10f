-- A segment of a path's text.
use Rattle.std.specs.Prelude.{ℕ, List, [], ◌∷◌, Option, Some, None}
use Rattle.pw_text.specs.Forms.{filled}

-- one to four bytes, filled up to four
abbrev pub filled_few : List ℕ → Option (List ℕ)
filled_few [] = None
filled_few (a ∷ []) = Some (filled (a ∷ []))
filled_few (a ∷ b ∷ []) = Some (filled (a ∷ b ∷ []))
filled_few (a ∷ b ∷ c ∷ []) = Some (filled (a ∷ b ∷ c ∷ []))
filled_few (a ∷ b ∷ c ∷ d ∷ []) = Some (a ∷ b ∷ c ∷ d ∷ [])
filled_few _ = None
