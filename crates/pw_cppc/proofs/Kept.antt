-- The numbers of a range that pass a test.
use Rattle.std.proofs.Common.{◌≡◌, ◌<◌, ◌≤◌, ◌+◌, ◌-◌, ◌==◌, ◌||◌, ℕ, suc, zero, Bool, true, false, cond, List, [], ◌∷◌, ◌++◌, map, length, refl, ap, sym, ◌∙◌, ◌⊎◌, inl, inr, arith, append_assoc, eqb-true}
use Rattle.std.specs.Prelude.{filter}
use Rattle.std.specs.List.{list_all, range_with_len, AllByRecursion}
use Rattle.std.proofs.lemmas.Bool.Decides.{nat_tests}
use Rattle.pw_plan.specs.Groups.{first_of, has_member}
use Rattle.pw_plan.proofs.Lists.{and_both, and_first, and_second, or_left, or_right}
use Rattle.pw_plan.proofs.Ordered.{In, Sorted}
use Rattle.pw_plan.proofs.Ranges.{range_next}
use Rattle.pw_plan.proofs.Rising.{Rises, least_first, rises_from}

-- # What a loop over a range has pushed so far, and what the rest of the range makes

module _ (acc whole : List ℕ) (n m : ℕ) (lt : n < m) (t : ℕ → Bool) where
  pub pushed_kept : t n ≡ true → acc ++ filter t (range_with_len n (m - n)) ≡ whole → (acc ++ n ∷ []) ++ filter t (range_with_len (n + 1) (m - (n + 1))) ≡ whole
  pushed_kept p h =
      rw append_assoc (ap (λ b. acc ++ cond b (n ∷ filter t (range_with_len (n + 1) (m - (n + 1)))) (filter t (range_with_len (n + 1) (m - (n + 1))))) (sym p)
      ∙ ap (λ r. acc ++ filter t r) (sym (range_next n m lt)) ∙ h)

  pub passed_kept : t n ≡ false → acc ++ filter t (range_with_len n (m - n)) ≡ whole → acc ++ filter t (range_with_len (n + 1) (m - (n + 1))) ≡ whole
  passed_kept p h =
      ap (λ b. acc ++ cond b (n ∷ filter t (range_with_len (n + 1) (m - (n + 1)))) (filter t (range_with_len (n + 1) (m - (n + 1))))) (sym p)
      ∙ ap (λ r. acc ++ filter t r) (sym (range_next n m lt)) ∙ h

-- # Which they are

pub kept_each : (Q : ℕ → Type 0) (t : ℕ → Bool) (k n : ℕ) → ((q : ℕ) → k ≤ q → q < k + n → t q ≡ true → Q q) → AllByRecursion Q (filter t (range_with_len k n))
kept_each Q t k zero h = tt
kept_each Q t k (suc n) h = step (t k) refl (kept_each Q t (k + 1) n (λ q a b e. h q (omega arith) (omega arith) e))
  where
    step : (b : Bool) → t k ≡ b → AllByRecursion Q (filter t (range_with_len (k + 1) n)) → AllByRecursion Q (cond b (k ∷ filter t (range_with_len (k + 1) n)) (filter t (range_with_len (k + 1) n)))
    step true e r = (h k (omega arith) (omega arith) e, r)
    step false e r = r

pub kept_has : (t : ℕ → Bool) (k n q : ℕ) → k ≤ q → q < k + n → t q ≡ true → has_member (filter t (range_with_len k n)) q ≡ true
kept_has t k zero q le lt e = absurd (omega arith)
kept_has t k (suc n) q le lt e = step (t k) (k == q) refl refl (λ j. kept_has t (k + 1) n q j (omega arith) e)
  where
    step : (b c : Bool) → t k ≡ b → (k == q) ≡ c → (k + 1 ≤ q → has_member (filter t (range_with_len (k + 1) n)) q ≡ true)
        → has_member (cond b (k ∷ filter t (range_with_len (k + 1) n)) (filter t (range_with_len (k + 1) n))) q ≡ true
    step true true a i later = or_left (k == q) (has_member (filter t (range_with_len (k + 1) n)) q) i
    step true false a i later = or_right (k == q) (has_member (filter t (range_with_len (k + 1) n)) q) (later (grind (arith, nat_tests)))
    step false true a i later = let is : q ≡ k = grind (arith, nat_tests) in let f : false ≡ true = sym a ∙ ap t (sym is) ∙ e in cc
    step false false a i later = later (grind (arith, nat_tests))

-- what holds of each of some numbers holds of who is among them
pub member_each : (Q : ℕ → Type 0) (xs : List ℕ) → AllByRecursion Q xs → (q : ℕ) → has_member xs q ≡ true → Q q
member_each Q [] a q e = cc
member_each Q (x ∷ xs) a q e = step (x == q) refl e (member_each Q xs a.1 q)
  where
    step : (b : Bool) → (x == q) ≡ b → (b || has_member xs q) ≡ true → (has_member xs q ≡ true → Q q) → Q q
    step true h e later = let i : q ≡ x = grind (arith, nat_tests) in rw i a.0
    step false h e later = later e

pub kept_only : (t : ℕ → Bool) (n q : ℕ) → has_member (filter t (range_with_len 0 n)) q ≡ true → (q < n) × (t q ≡ true)
kept_only t n q e = member_each (λ q. (q < n) × (t q ≡ true)) (filter t (range_with_len 0 n)) (kept_each (λ q. (q < n) × (t q ≡ true)) t 0 n (λ q a b e. (omega arith, e))) q e

pub kept_rises : (t : ℕ → Bool) (k n : ℕ) → Rises k (filter t (range_with_len k n))
kept_rises t k zero = tt
kept_rises t k (suc n) = step (t k) (kept_rises t (k + 1) n)
  where
    step : (b : Bool) → Rises (k + 1) (filter t (range_with_len (k + 1) n)) → Rises k (cond b (k ∷ filter t (range_with_len (k + 1) n)) (filter t (range_with_len (k + 1) n)))
    step true r = (omega arith, let e : suc k ≡ k + 1 = omega arith in rw e r)
    step false r = rises_from k (k + 1) (filter t (range_with_len (k + 1) n)) (omega arith) r

pub kept_length : (t : ℕ → Bool) (k n : ℕ) → length (filter t (range_with_len k n)) ≤ n
kept_length t k zero = omega arith
kept_length t k (suc n) = step (t k) (kept_length t (k + 1) n)
  where
    step : (b : Bool) → length (filter t (range_with_len (k + 1) n)) ≤ n → length (cond b (k ∷ filter t (range_with_len (k + 1) n)) (filter t (range_with_len (k + 1) n))) ≤ suc n
    step true le = omega arith
    step false le = omega arith

pub member_all : (t : ℕ → Bool) (xs : List ℕ) → list_all t xs ≡ true → (q : ℕ) → has_member xs q ≡ true → t q ≡ true
member_all t [] a q e = cc
member_all t (x ∷ xs) a q e = step (x == q) refl e (member_all t xs (and_second (t x) (list_all t xs) a) q)
  where
    step : (b : Bool) → (x == q) ≡ b → (b || has_member xs q) ≡ true → (has_member xs q ≡ true → t q ≡ true) → t q ≡ true
    step true h e later = ap t (sym (eqb-true x q h)) ∙ and_first (t x) (list_all t xs) a
    step false h e later = later e

-- the first of numbers that rise is the least
pub first_least : (low q : ℕ) (xs : List ℕ) → Rises low xs → has_member xs q ≡ true → first_of xs ≤ q
first_least low q [] r e = cc
first_least low q (x ∷ xs) r e = least_first x q (x ∷ xs) (omega arith, r.1) e

-- # All of a range

pub all_range : (t : ℕ → Bool) (k n q : ℕ) → list_all t (range_with_len k n) ≡ true → k ≤ q → q < k + n → t q ≡ true
all_range t k zero q a le lt = absurd (omega arith)
all_range t k (suc n) q a le lt = step (k == q) refl (λ j. all_range t (k + 1) n q (and_second (t k) (list_all t (range_with_len (k + 1) n)) a) j (omega arith))
  where
    step : (b : Bool) → (k == q) ≡ b → (k + 1 ≤ q → t q ≡ true) → t q ≡ true
    step true h later = ap t (sym (eqb-true k q h)) ∙ and_first (t k) (list_all t (range_with_len (k + 1) n)) a
    step false h later = later (grind (arith, nat_tests))

pub range_all : (t : ℕ → Bool) (k n : ℕ) → ((q : ℕ) → k ≤ q → q < k + n → t q ≡ true) → list_all t (range_with_len k n) ≡ true
range_all t k zero h = refl
range_all t k (suc n) h = and_both (t k) (list_all t (range_with_len (k + 1) n)) (h k (omega arith) (omega arith)) (range_all t (k + 1) n (λ q a b. h q (omega arith) (omega arith)))

pub in_range : (k n q : ℕ) → k ≤ q → q < k + n → In q (range_with_len k n)
in_range k zero q le lt = absurd (omega arith)
in_range k (suc n) q le lt = step (k == q) refl (λ j. in_range (k + 1) n q j (omega arith))
  where
    step : (b : Bool) → (k == q) ≡ b → (k + 1 ≤ q → In q (range_with_len (k + 1) n)) → (q ≡ k) ⊎ In q (range_with_len (k + 1) n)
    step true h later = inl (sym (eqb-true k q h))
    step false h later = inr (later (grind (arith, nat_tests)))

-- # What is made of them

pub each_made : {Y : Type 0} (Q : Y → Type 0) (f : ℕ → Y) (xs : List ℕ) → AllByRecursion (λ q. Q (f q)) xs → AllByRecursion Q (map f xs)
each_made Q f [] a = tt
each_made Q f (x ∷ xs) a = (a.0, each_made Q f xs a.1)

pub made_sorted : {Y : Type 0} (R : Y → Y → Bool) (f : ℕ → Y) (t : ℕ → Bool) (k n : ℕ)
    → ((p q : ℕ) → p < q → q < k + n → t p ≡ true → t q ≡ true → R (f p) (f q) ≡ true) → Sorted R (map f (filter t (range_with_len k n)))
made_sorted R f t k zero h = tt
made_sorted R f t k (suc n) h = step (t k) refl (made_sorted R f t (k + 1) n (λ p q a b. h p q a (omega arith)))
  where
    step : (b : Bool) → t k ≡ b → Sorted R (map f (filter t (range_with_len (k + 1) n))) → Sorted R (map f (cond b (k ∷ filter t (range_with_len (k + 1) n)) (filter t (range_with_len (k + 1) n))))
    step true e r = (
      each_made (λ y. R (f k) y ≡ true) f (filter t (range_with_len (k + 1) n)) (kept_each (λ q. R (f k) (f q) ≡ true) t (k + 1) n (λ q a b c. h k q (omega arith) (omega arith) e c)),
      r,
    )
    step false e r = r
