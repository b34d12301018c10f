-- Lists: tests of elements by their place, and the places of elements that pass one.
use Rattle.std.proofs.Common.{◌≡◌, ◌<◌, ◌≤◌, ◌+◌, ◌||◌, ◌&&◌, ◌==◌, ℕ, suc, zero, Bool, true, false, cond, List, [], ◌∷◌, ◌++◌, map, length, get_or, take, refl, arith}
use Rattle.std.proofs.Common.{length-append, add-zero}
use Rattle.std.specs.List.{list_any, range_with_len, flat_map, position_or_len, AllByRecursion}
use Rattle.std.proofs.lemmas.List.Sums.{sum_by-cons}
use Rattle.std.specs.Prelude.{sum_by}
use Rattle.std.proofs.lemmas.Bool.Decides.{nat_tests}
use Rattle.pw_plan.specs.Tree.{places_from}
use Rattle.pw_plan.specs.Groups.{has_member}

-- # Tests

pub or_left : (a b : Bool) → a ≡ true → (a || b) ≡ true
or_left true b e = refl
or_left false b e = cc

pub or_right : (a b : Bool) → b ≡ true → (a || b) ≡ true
or_right true b e = refl
or_right false b e = e

pub or_first : (a b : Bool) → (a || b) ≡ false → a ≡ false
or_first true b e = cc
or_first false b e = refl

pub or_second : (a b : Bool) → (a || b) ≡ false → b ≡ false
or_second true b e = cc
or_second false b e = e

pub and_first : (a b : Bool) → (a && b) ≡ true → a ≡ true
and_first true b e = refl
and_first false b e = cc

pub and_second : (a b : Bool) → (a && b) ≡ true → b ≡ true
and_second true b e = e
and_second false b e = cc

pub and_both : (a b : Bool) → a ≡ true → b ≡ true → (a && b) ≡ true
and_both true true e f = refl
and_both true false e f = cc
and_both false b e f = cc

-- # Some element passes

pub any_at : {X : Type 0} (t : X → Bool) (xs : List X) (i : ℕ) (d : X) → i < length xs → t (get_or xs i d) ≡ true → list_any t xs ≡ true
any_at t [] i d lt e = absurd (omega arith)
any_at t (x ∷ xs) zero d lt e = or_left (t x) (list_any t xs) e
any_at t (x ∷ xs) (suc i) d lt e = or_right (t x) (list_any t xs) (any_at t xs i d (omega arith) e)

pub any_false : {X : Type 0} (t : X → Bool) (xs : List X) (i : ℕ) (d : X) → list_any t xs ≡ false → i < length xs → t (get_or xs i d) ≡ false
any_false t [] i d e lt = absurd (omega arith)
any_false t (x ∷ xs) zero d e lt = or_first (t x) (list_any t xs) e
any_false t (x ∷ xs) (suc i) d e lt = any_false t xs i d (or_second (t x) (list_any t xs) e) (omega arith)

-- the place of the first element that passes
pub first_place : {X : Type 0} (t : X → Bool) (xs : List X) (d : X) → list_any t xs ≡ true → (q : ℕ) × (q < length xs) × (t (get_or xs q d) ≡ true) × (list_any t (take q xs) ≡ false)
first_place t [] d e = cc
first_place t (x ∷ xs) d e = step (t x) refl e (first_place t xs d)
  where
    step : (b : Bool) → t x ≡ b → (b || list_any t xs) ≡ true
        → (list_any t xs ≡ true → (q : ℕ) × (q < length xs) × (t (get_or xs q d) ≡ true) × (list_any t (take q xs) ≡ false))
        → (q : ℕ) × (q < suc (length xs)) × (t (get_or (x ∷ xs) q d) ≡ true) × (list_any t (take q (x ∷ xs)) ≡ false)
    step true h e later = (0, omega arith, h, refl)
    step false h e later = let r = later e in (suc r.0, omega (arith, r.1), r.2, rw h r.3)

pub any_append_left : {X : Type 0} (t : X → Bool) (xs ys : List X) → list_any t xs ≡ true → list_any t (xs ++ ys) ≡ true
any_append_left t [] ys e = cc
any_append_left t (x ∷ xs) ys e = step (t x) e (any_append_left t xs ys)
  where
    step : (b : Bool) → (b || list_any t xs) ≡ true → (list_any t xs ≡ true → list_any t (xs ++ ys) ≡ true) → (b || list_any t (xs ++ ys)) ≡ true
    step true e r = refl
    step false e r = r e

pub any_append_right : {X : Type 0} (t : X → Bool) (xs ys : List X) → list_any t ys ≡ true → list_any t (xs ++ ys) ≡ true
any_append_right t [] ys e = e
any_append_right t (x ∷ xs) ys e = or_right (t x) (list_any t (xs ++ ys)) (any_append_right t xs ys e)

-- who is found in the first list stands in it
pub position-in_first : {X : Type 0} (t : X → Bool) (xs ys : List X) → list_any t xs ≡ true → position_or_len t (xs ++ ys) < length xs
position-in_first t [] ys e = cc
position-in_first t (x ∷ xs) ys e = step (t x) refl e (position-in_first t xs ys)
  where
    step : (b : Bool) → t x ≡ b → (b || list_any t xs) ≡ true → (list_any t xs ≡ true → position_or_len t (xs ++ ys) < length xs) → position_or_len t (x ∷ xs ++ ys) < suc (length xs)
    step true h e r = rw h (omega arith)
    step false h e r = let lt = r e in rw h (omega (arith, lt))

pub any_flat_map : {X : Type 0} (t : X → Bool) (f : ℕ → List X) (k n q : ℕ) → k ≤ q → q < k + n → list_any t (f q) ≡ true → list_any t (flat_map f (range_with_len k n)) ≡ true
any_flat_map t f k zero q le lt e = absurd (omega arith)
any_flat_map t f k (suc n) q le lt e = step (k == q) refl (λ j. any_flat_map t f (k + 1) n q j (omega arith) e)
  where
    step : (b : Bool) → (k == q) ≡ b → (k + 1 ≤ q → list_any t (flat_map f (range_with_len (k + 1) n)) ≡ true) → list_any t (f k ++ flat_map f (range_with_len (k + 1) n)) ≡ true
    step true h later = let i : q ≡ k = grind (arith, nat_tests) in any_append_left t (f k) (flat_map f (range_with_len (k + 1) n)) (rw i at e)
    step false h later = let j : k + 1 ≤ q = grind (arith, nat_tests) in any_append_right t (f k) (flat_map f (range_with_len (k + 1) n)) (later j)

-- # All elements

pub each_append : {X : Type 0} (P : X → Type 0) (xs ys : List X) → AllByRecursion P xs → AllByRecursion P ys → AllByRecursion P (xs ++ ys)
each_append P [] ys a b = b
each_append P (x ∷ xs) ys a b = (a.0, each_append P xs ys a.1 b)

pub each_map : {X Y : Type 0} (P : Y → Type 0) (f : X → Y) (xs : List X) → ((x : X) → P (f x)) → AllByRecursion P (map f xs)
each_map P f [] h = tt
each_map P f (x ∷ xs) h = (h x, each_map P f xs h)

pub each_flat_map : {X : Type 0} (P : X → Type 0) (f : ℕ → List X) (k n : ℕ) → ((q : ℕ) → k ≤ q → q < k + n → AllByRecursion P (f q)) → AllByRecursion P (flat_map f (range_with_len k n))
each_flat_map P f k zero h = tt
each_flat_map P f k (suc n) h = each_append P (f k) (flat_map f (range_with_len (k + 1) n)) (h k (omega arith) (omega arith)) (each_flat_map P f (k + 1) n (λ q a b. h q (omega arith) (omega arith)))

pub length-flat_map-le : {X : Type 0} (f : ℕ → List X) (k n : ℕ) → ((q : ℕ) → length (f q) ≤ 1) → length (flat_map f (range_with_len k n)) ≤ n
length-flat_map-le f k zero h = omega arith
length-flat_map-le f k (suc n) h =
    let a = h k in
    let r = length-flat_map-le f (k + 1) n h in
    rw (length-append (f k) (flat_map f (range_with_len (k + 1) n))) (omega (arith, a, r))

-- # Places

-- each place is one of the list, and its element passes
pub places-each : {X : Type 0} (Q : ℕ → Type 0) (t : X → Bool) (k : ℕ) (xs : List X) (d : X) → ((i : ℕ) → i < length xs → t (get_or xs i d) ≡ true → Q (k + i)) → AllByRecursion Q (places_from t k xs)
places-each Q t k [] d h = tt
places-each Q t k (x ∷ xs) d h = step (t x) refl (places-each Q t (k + 1) xs d (λ i lt e. rw (same i) (h (suc i) (omega arith) e)))
  where
    same : (i : ℕ) → (k + 1) + i ≡ k + suc i
    same i = omega arith

    step : (b : Bool) → t x ≡ b → AllByRecursion Q (places_from t (k + 1) xs) → AllByRecursion Q (cond b (k ∷ places_from t (k + 1) xs) (places_from t (k + 1) xs))
    step true e r = (rw (← add-zero k) (h 0 (omega arith) e), r)
    step false e r = r

pub places-length : {X : Type 0} (t : X → Bool) (k : ℕ) (xs : List X) → length (places_from t k xs) ≤ length xs
places-length t k [] = omega arith
places-length t k (x ∷ xs) = step (t x) (places-length t (k + 1) xs)
  where
    step : (b : Bool) → length (places_from t (k + 1) xs) ≤ length xs → length (cond b (k ∷ places_from t (k + 1) xs) (places_from t (k + 1) xs)) ≤ suc (length xs)
    step true le = omega arith
    step false le = omega arith

-- whoever passes is there
pub places-has : {X : Type 0} (t : X → Bool) (k : ℕ) (xs : List X) (i : ℕ) (d : X) → i < length xs → t (get_or xs i d) ≡ true → has_member (places_from t k xs) (k + i) ≡ true
places-has t k [] i d lt e = absurd (omega arith)
places-has t k (x ∷ xs) zero d lt e = rw e (or_left (k == (k + 0)) (has_member (places_from t (k + 1) xs) (k + 0)) (grind (arith, nat_tests)))
places-has t k (x ∷ xs) (suc i) d lt e =
    let r : has_member (places_from t (k + 1) xs) (k + suc i) ≡ true = rw (same i) at (places-has t (k + 1) xs i d (omega arith) e) in
    step (t x) r
  where
    same : (i : ℕ) → (k + 1) + i ≡ k + suc i
    same i = omega arith

    step : (b : Bool) → has_member (places_from t (k + 1) xs) (k + suc i) ≡ true → has_member (cond b (k ∷ places_from t (k + 1) xs) (places_from t (k + 1) xs)) (k + suc i) ≡ true
    step true r = or_right (k == (k + suc i)) (has_member (places_from t (k + 1) xs) (k + suc i)) r
    step false r = r

-- and nobody else
pub places-only : {X : Type 0} (t : X → Bool) (k : ℕ) (xs : List X) (q : ℕ) (d : X) → has_member (places_from t k xs) q ≡ true → (i : ℕ) × (q ≡ k + i) × (i < length xs) × (t (get_or xs i d) ≡ true)
places-only t k [] q d e = cc
places-only t k (x ∷ xs) q d e = step (t x) refl e (λ f. let r = places-only t (k + 1) xs q d f in (suc r.0, omega (arith, r.1), omega (arith, r.2), r.3))
  where
    here : (c : Bool) → (k == q) ≡ c → t x ≡ true → (c || has_member (places_from t (k + 1) xs) q) ≡ true
        → (has_member (places_from t (k + 1) xs) q ≡ true → (i : ℕ) × (q ≡ k + i) × (i < suc (length xs)) × (t (get_or (x ∷ xs) i d) ≡ true))
        → (i : ℕ) × (q ≡ k + i) × (i < suc (length xs)) × (t (get_or (x ∷ xs) i d) ≡ true)
    here true h p e later = (0, grind (arith, nat_tests), omega arith, p)
    here false h p e later = later e

    step : (b : Bool) → t x ≡ b → has_member (cond b (k ∷ places_from t (k + 1) xs) (places_from t (k + 1) xs)) q ≡ true
        → (has_member (places_from t (k + 1) xs) q ≡ true → (i : ℕ) × (q ≡ k + i) × (i < suc (length xs)) × (t (get_or (x ∷ xs) i d) ≡ true))
        → (i : ℕ) × (q ≡ k + i) × (i < suc (length xs)) × (t (get_or (x ∷ xs) i d) ≡ true)
    step true p e later = here (k == q) refl p e later
    step false p e later = later e

-- # Sums

pub sum-none : {X : Type 0} (f : X → ℕ) (xs : List X) → AllByRecursion (λ x. f x ≡ 0) xs → sum_by f xs ≡ 0
sum-none f [] a = refl
sum-none f (x ∷ xs) a = rw (sum_by-cons, a.0, sum-none f xs a.1) refl
