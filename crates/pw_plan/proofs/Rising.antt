-- Lists of numbers that rise.
use Rattle.std.proofs.Common.{◌≡◌, ◌<◌, ◌≤◌, ◌+◌, ◌==◌, ◌||◌, ℕ, suc, zero, Bool, true, false, cond, List, [], ◌∷◌, length, refl, arith, add-one, eqb-true, eq-eqb}
use Rattle.std.specs.List.Sorted.{IsStrictlyIncreasing}
use Rattle.std.proofs.lemmas.Bool.Decides.{nat_tests}
use Rattle.pw_plan.specs.Groups.{first_of, has_member}
use Rattle.pw_plan.proofs.Lists.{or_left}
use Rattle.pw_plan.specs.Tree.{places_from}
use Rattle.pw_plan.specs.inner.Once.{Once}

abbrev pub Rises : ℕ → List ℕ → Type 0
Rises low [] = Unit {0}
Rises low (x ∷ xs) = (low ≤ x) × Rises (suc x) xs

pub rises_from : (low high : ℕ) (xs : List ℕ) → low ≤ high → Rises high xs → Rises low xs
rises_from low high [] le r = tt
rises_from low high (x ∷ xs) le r = (let a = r.0 in omega (arith, a, le), r.1)

pub rising_is : (low : ℕ) (xs : List ℕ) → Rises low xs → IsStrictlyIncreasing xs
rising_is low [] r k lt = absurd (omega arith)
rising_is low (x ∷ []) r k lt = absurd (omega arith)
rising_is low (x ∷ y ∷ ys) r zero lt = let a = r.1.0 in omega (arith, a)
rising_is low (x ∷ y ∷ ys) r (suc k) lt =
    let h = rising_is (suc x) (y ∷ ys) r.1 k (omega arith) in
    rw add-one (rw add-one at h)

pub places_rise : {X : Type 0} (t : X → Bool) (k : ℕ) (xs : List X) → Rises k (places_from t k xs)
places_rise t k [] = tt
places_rise t k (x ∷ xs) = step (t x) (places_rise t (k + 1) xs)
  where
    step : (b : Bool) → Rises (k + 1) (places_from t (k + 1) xs) → Rises k (cond b (k ∷ places_from t (k + 1) xs) (places_from t (k + 1) xs))
    step true r = (omega arith, let e : suc k ≡ k + 1 = omega arith in rw e r)
    step false r = rises_from k (k + 1) (places_from t (k + 1) xs) (omega arith) r

rises_after : (x : ℕ) (xs : List ℕ) → IsStrictlyIncreasing (x ∷ xs) → Rises (suc x) xs
rises_after x [] inc = tt
rises_after x (y ∷ ys) inc =
    (let a = inc 0 (omega arith) in omega (arith, a), rises_after y ys (λ k lt. let h = inc (suc k) (omega (arith, lt)) in rw add-one (rw add-one at h)))

-- a list that increases rises
pub rises_of : (xs : List ℕ) → IsStrictlyIncreasing xs → Rises 0 xs
rises_of [] inc = tt
rises_of (x ∷ xs) inc = (omega arith, rises_after x xs inc)

-- no number below the least is there
pub none_below : (low q : ℕ) (xs : List ℕ) → Rises low xs → q < low → has_member xs q ≡ false
none_below low q [] r lt = refl
none_below low q (x ∷ xs) r lt =
    let le = r.0 in
    let here : (x == q) ≡ false = grind (arith, nat_tests) in
    let later = none_below (suc x) q xs r.1 (omega (arith, le, lt)) in
    rw here later

-- each number stands there once
pub rises_once : (low p : ℕ) (xs : List ℕ) → Rises low xs → Once (λ q. q == p) xs
rises_once low p [] r = tt
rises_once low p (x ∷ xs) r = (λ e. none_below (suc x) p xs r.1 (let i = eqb-true x p e in omega (arith, i)), rises_once (suc x) p xs r.1)

-- the first is the least
pub least_first : (low q : ℕ) (xs : List ℕ) → Rises low xs → has_member xs q ≡ true → low ≤ q
least_first low q [] r e = cc
least_first low q (x ∷ xs) r e = step (x == q) refl e (least_first (suc x) q xs r.1)
  where
    step : (b : Bool) → (x == q) ≡ b → (b || has_member xs q) ≡ true → (has_member xs q ≡ true → suc x ≤ q) → low ≤ q
    step true h e later = let i = eqb-true x q h in let a = r.0 in omega (arith, i, a)
    step false h e later = let a = r.0 in let l = later e in omega (arith, a, l)

-- the first one is there
pub first_there : (ms : List ℕ) → 0 < length ms → has_member ms (first_of ms) ≡ true
first_there [] lt = absurd (omega arith)
first_there (m ∷ ms) lt = or_left (m == m) (has_member ms m) (eq-eqb m m refl)
