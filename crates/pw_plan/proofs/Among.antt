-- The elements that pass one test, by their places, and another test of them: who fails the first need not be looked at.
use Rattle.std.proofs.Common.{◌≡◌, ◌+◌, ◌&&◌, ◌||◌, ℕ, suc, zero, Bool, true, false, cond, List, [], ◌∷◌, map, get_or, drop, refl, ap, ◌∙◌, add-one}
use Rattle.std.specs.List.{list_all, list_any}
use Rattle.pw_plan.specs.Tree.{places_from}

pub drop_head : {X : Type 0} (k : ℕ) (whole : List X) (x d : X) (xs : List X) → drop k whole ≡ x ∷ xs → (get_or whole k d ≡ x) × (drop (suc k) whole ≡ xs)
drop_head zero [] x d xs e = cc
drop_head zero (y ∷ ys) x d xs e = (cc, cc)
drop_head (suc k) [] x d xs e = cc
drop_head (suc k) (y ∷ ys) x d xs e = drop_head k ys x d xs e

module _ {X Y : Type 0} (t u : X → Bool) (whole : List X) (d : X) (f : ℕ → Y) (v : Y → Bool) (same : (k : ℕ) → v (f k) ≡ u (get_or whole k d)) where
  -- all pass where all of those do, if who isn't among them passes
  pub all_among : ((x : X) → t x ≡ false → u x ≡ true) → (k : ℕ) (xs : List X) → drop k whole ≡ xs → list_all v (map f (places_from t k xs)) ≡ list_all u xs
  all_among outside k [] at = refl
  all_among outside k (x ∷ xs) at = by (all_among outside (k + 1) xs (rw add-one ((drop_head k whole x d xs at).1))) (t x) refl
    where
      shows : v (f k) ≡ u x
      shows = same k ∙ ap u ((drop_head k whole x d xs at).0)

      by : list_all v (map f (places_from t (k + 1) xs)) ≡ list_all u xs → (b : Bool) → t x ≡ b → list_all v (map f (cond (t x) (k ∷ places_from t (k + 1) xs) (places_from t (k + 1) xs)))
          ≡ (u x && list_all u xs)
      by ih true h = rw (h, shows, ih) refl
      by ih false h = rw (h, outside x h) ih

  -- one passes where one of those does, if nobody else passes
  pub any_among : ((x : X) → t x ≡ false → u x ≡ false) → (k : ℕ) (xs : List X) → drop k whole ≡ xs → list_any v (map f (places_from t k xs)) ≡ list_any u xs
  any_among outside k [] at = refl
  any_among outside k (x ∷ xs) at = by (any_among outside (k + 1) xs (rw add-one ((drop_head k whole x d xs at).1))) (t x) refl
    where
      shows : v (f k) ≡ u x
      shows = same k ∙ ap u ((drop_head k whole x d xs at).0)

      by : list_any v (map f (places_from t (k + 1) xs)) ≡ list_any u xs → (b : Bool) → t x ≡ b → list_any v (map f (cond (t x) (k ∷ places_from t (k + 1) xs) (places_from t (k + 1) xs)))
          ≡ (u x || list_any u xs)
      by ih true h = rw (h, shows, ih) refl
      by ih false h = rw (h, outside x h) ih
