-- What a history asks for is no more than what was asked.
use Rattle.std.proofs.Common.{◌≡◌, ◌<◌, ◌≤◌, ◌+◌, ◌==◌, ◌∙◌, ℕ, zero, suc, Bool, true, false, cond, List, [], ◌∷◌, refl, ap, arith, eqb-true}
use Rattle.std.specs.Prelude.{filter, map, sum_by}
use Rattle.std.specs.List.{AllByRecursion}
use Rattle.std.proofs.lemmas.Bool.{eqb-false}
use Rattle.std.proofs.lemmas.List.Sums.{sum_by-append, sum_by-cons}
use Rattle.pw_books.specs.Books.{Begins}
use Rattle.pw_books.specs.Asked.{IsRunOf, Telling, requests}

-- # A sum, key by key

module _ {X : Type 0} (key f : X → ℕ) where
  abbrev kept : ℕ → List X → List X
  kept k xs = filter (λ x. key x == k) xs

  -- the sums of each key below n, one after the other
  abbrev each : ℕ → List X → ℕ
  each zero xs = 0
  each (suc n) xs = each n xs + sum_by f (kept n xs)

  each_none : (n : ℕ) → each n [] ≡ 0
  each_none zero = refl
  each_none (suc n) = let before = each_none n in omega (arith, before)

  -- an element counts once, for its own key
  each_out : (n : ℕ) (x : X) (xs : List X) → n ≤ key x → each n (x ∷ xs) ≡ each n xs
  each_out zero x xs le = refl
  each_out (suc n) x xs le = step (key x == n) refl (each_out n x xs (omega (arith, le)))
    where
      step : (b : Bool) → (key x == n) ≡ b → each n (x ∷ xs) ≡ each n xs
          → each n (x ∷ xs) + sum_by f (cond b (x ∷ kept n xs) (kept n xs)) ≡ each (suc n) xs
      step true h before = let is = eqb-true (key x) n h in absurd (omega (arith, is, le))
      step false h before = omega (arith, before)

  each_in : (n : ℕ) (x : X) (xs : List X) → key x < n → each n (x ∷ xs) ≡ f x + each n xs
  each_in zero x xs lt = absurd (omega (arith, lt))
  each_in (suc n) x xs lt = step (key x == n) refl (each_in n x xs)
    where
      step : (b : Bool) → (key x == n) ≡ b → (key x < n → each n (x ∷ xs) ≡ f x + each n xs)
          → each n (x ∷ xs) + sum_by f (cond b (x ∷ kept n xs) (kept n xs)) ≡ f x + each (suc n) xs
      step true h before =
          let is = eqb-true (key x) n h in
          let others = each_out n x xs (omega (arith, is)) in
          let here = sum_by-cons f x (kept n xs) in
          omega (arith, others, here)
      step false h before =
          let ne = eqb-false (key x) n h in
          let there = before (omega (arith, ne, lt)) in
          omega (arith, there)

  each_whole : (n : ℕ) (xs : List X) → AllByRecursion (λ x. key x < n) xs → each n xs ≡ sum_by f xs
  each_whole n [] a = each_none n
  each_whole n (x ∷ xs) a =
      let here = each_in n x xs a.0 in
      let later = each_whole n xs a.1 in
      let all = sum_by-cons f x xs in
      omega (arith, here, later, all)

  each_fewer : (n : ℕ) (xs ys : List X) → ((k : ℕ) → Begins (kept k ys) (kept k xs)) → each n xs ≤ each n ys
  each_fewer zero xs ys begins = omega arith
  each_fewer (suc n) xs ys begins =
      let before = each_fewer n xs ys begins in
      let last = begins n in
      let all = ap (sum_by f) last.1 ∙ sum_by-append f (kept n xs) last.0 in
      omega (arith, before, all)

  -- no key is above the sum of all
  each_below : (n : ℕ) (xs : List X) → sum_by key xs < n → AllByRecursion (λ x. key x < n) xs
  each_below n [] lt = tt
  each_below n (x ∷ xs) lt = let all = sum_by-cons key x xs in (omega (arith, lt, all), each_below n xs (omega (arith, lt, all)))

  -- where what one list has of each key begins what the other has of it, its sum is no more
  pub sum-begun : (xs ys : List X) → ((k : ℕ) → Begins (kept k ys) (kept k xs)) → sum_by f xs ≤ sum_by f ys
  sum-begun xs ys begins =
      let n = suc (sum_by key xs + sum_by key ys) in
      let fewer = each_fewer n xs ys begins in
      let left = each_whole n xs (each_below n xs (omega arith)) in
      let right = each_whole n ys (each_below n ys (omega arith)) in
      omega (arith, fewer, left, right)

pub sum-map_by : {X Y : Type 0} (f : Y → ℕ) (g : X → Y) (xs : List X) → sum_by f (map g xs) ≡ sum_by (λ x. f (g x)) xs
sum-map_by f g [] = refl
sum-map_by f g (x ∷ xs) =
    let later = sum-map_by f g xs in
    let left = sum_by-cons f (g x) (map g xs) in
    let right = sum_by-cons (λ x. f (g x)) x xs in
    omega (arith, later, left, right)

pub asks_no_more : {E Q : Type 0} (T : Telling E Q) (f : Q → ℕ) (asked : List Q) (es : List E) → IsRunOf T asked es → sum_by f (requests T es) ≤ sum_by f asked
asks_no_more T f asked es run = sum-begun T.cpu f (requests T es) asked run.begins
