-- Lists in which at most one element passes a test.
use Rattle.std.specs.Prelude.{◌≡◌, Bool, true, false, List, [], ◌∷◌}
use Rattle.std.specs.List.{list_any}

-- at most one element passes
abbrev pub Once : {X : Type 0} → (X → Bool) → List X → Type 0
Once test [] = Unit {0}
Once test (x ∷ xs) = (test x ≡ true → list_any test xs ≡ false) × Once test xs
