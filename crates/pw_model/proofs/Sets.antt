-- Lists with one element changed.
use Rattle.std.proofs.Common.{◌≡◌, Bool, true, false, List, [], ◌∷◌, map, set, refl, ap, sym, ◌∙◌}
use Rattle.std.specs.List.{list_any, position_or_len, AllByRecursion}
use Rattle.pw_plan.proofs.Lists.{or_first, or_second}
use Rattle.pw_plan.specs.inner.Once.{Once}
use Rattle.pw_plan.proofs.Found.{position-here, position-later}

module _ {X Y : Type 0} (test : X → Bool) (f g : X → Y) where
  -- where no element passes, nothing changes
  pub map_none : (xs : List X) → AllByRecursion (λ x. test x ≡ false → g x ≡ f x) xs → list_any test xs ≡ false → map g xs ≡ map f xs
  map_none [] a none = refl
  map_none (x ∷ xs) a none =
      let here : g x ≡ f x = a.0 (or_first (test x) (list_any test xs) none) in
      let later : map g xs ≡ map f xs = map_none xs a.1 (or_second (test x) (list_any test xs) none) in
      cc

  -- a map that differs at one element alone is the other with this element set
  pub map_set : (v : Y) (xs : List X) → ((x : X) → test x ≡ true → g x ≡ v) → AllByRecursion (λ x. test x ≡ false → g x ≡ f x) xs → Once test xs
      → map g xs ≡ set (map f xs) (position_or_len test xs) v
  map_set v [] here a once = refl
  map_set v (x ∷ xs) here a once = step (test x) refl (map_set v xs here a.1 once.1)
    where
      step : (b : Bool) → test x ≡ b → map g xs ≡ set (map f xs) (position_or_len test xs) v → map g (x ∷ xs) ≡ set (map f (x ∷ xs)) (position_or_len test (x ∷ xs)) v
      step true e later =
          let now : g x ≡ v = here x e in
          let rest : map g xs ≡ map f xs = map_none xs a.1 (once.0 e) in
          let both : map g (x ∷ xs) ≡ v ∷ map f xs = cc in
          both ∙ ap (λ k. set (map f (x ∷ xs)) k v) (sym (position-here test x xs e))
      step false e later =
          let now : g x ≡ f x = a.0 e in
          let both : map g (x ∷ xs) ≡ f x ∷ set (map f xs) (position_or_len test xs) v = cc in
          both ∙ ap (λ k. set (map f (x ∷ xs)) k v) (sym (position-later test x xs e))
