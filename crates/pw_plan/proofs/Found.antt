-- The first element that passes a test, and its place.
use Rattle.std.proofs.Common.{◌≡◌, ◌<◌, ◌||◌, suc, Bool, true, false, List, [], ◌∷◌, length, get_or, refl, ap, ◌∙◌, arith}
use Rattle.std.specs.List.{list_any, position_or_len}

pub position-here : {X : Type 0} (test : X → Bool) (x : X) (xs : List X) → test x ≡ true → position_or_len test (x ∷ xs) ≡ 0
position-here test x xs e = rw e refl

pub position-later : {X : Type 0} (test : X → Bool) (x : X) (xs : List X) → test x ≡ false → position_or_len test (x ∷ xs) ≡ suc (position_or_len test xs)
position-later test x xs e = rw e (omega arith)

-- who passes is found
pub found : {X : Type 0} (test : X → Bool) (xs : List X) → list_any test xs ≡ true → position_or_len test xs < length xs
found test [] e = cc
found test (x ∷ xs) e = step (test x) refl e (found test xs)
  where
    step : (b : Bool) → test x ≡ b → (b || list_any test xs) ≡ true → (list_any test xs ≡ true → position_or_len test xs < length xs) → position_or_len test (x ∷ xs) < suc (length xs)
    step true h e later = rw h (omega arith)
    step false h e later = let lt = later e in rw h (omega (arith, lt))

-- who is found passes
pub passes : {X : Type 0} (test : X → Bool) (xs : List X) (d : X) → position_or_len test xs < length xs → test (get_or xs (position_or_len test xs) d) ≡ true
passes test [] d lt = absurd (omega arith)
passes test (x ∷ xs) d lt = step (test x) refl (passes test xs d)
  where
    step : (b : Bool) → test x ≡ b → (position_or_len test xs < length xs → test (get_or xs (position_or_len test xs) d) ≡ true) → test (get_or (x ∷ xs) (position_or_len test (x ∷ xs)) d) ≡ true
    step true e later = ap (λ k. test (get_or (x ∷ xs) k d)) (position-here test x xs e) ∙ e
    step false e later = let at = position-later test x xs e in ap (λ k. test (get_or (x ∷ xs) k d)) at ∙ later (omega (arith, at, lt))
