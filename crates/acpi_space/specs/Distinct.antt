-- Lists in which nothing stands twice.
use Rattle.std.specs.Prelude.{◌≡◌, ◌≢◌, List, ◌∷◌, ◌++◌, Contains}
use Rattle.std.specs.List.{AllPairs}

-- no element stands twice
abbrev pub IsDistinct : {X : Type 0} → List X → Type 0
IsDistinct xs = AllPairs (λ x y. x ≢ y) xs

-- the list is so many distinct elements, then this one, which is one of them, and then any others
pub record IsFirstRepeat {X : Type 0} (xs : List X) (x : X) : Type 0 where
  pub front : List X
  pub back : List X
  pub parts : xs ≡ front ++ x ∷ back
  pub distinct : IsDistinct front
  pub among : Contains front x
