-- The greatest index that passes a test.
use Rattle.std.proofs.Common.{◌≡◌, ◌<◌, ◌≤◌, ◌-◌, ℕ, suc, zero, Bool, true, false, cond, refl, ap, sym, ◌∙◌, inl, inr, arith, sub-one}
use Rattle.std.specs.Prelude.{if◌then◌else◌}
use Rattle.std.proofs.lemmas.Bool.{cases_lt}
use Rattle.pw_model.specs.Containers.{greatest}

pub greatest-le : (test : ℕ → Bool) (n : ℕ) → greatest test n ≤ n
greatest-le test zero = omega arith
greatest-le test (suc n) = step (test (suc n)) (greatest-le test n)
  where
    step : (b : Bool) → greatest test n ≤ n → cond b (suc n) (greatest test n) ≤ suc n
    step true h = omega arith
    step false h = omega arith

-- it passes, unless it is 0
pub greatest-passes : (test : ℕ → Bool) (n : ℕ) → 0 < greatest test n → test (greatest test n) ≡ true
greatest-passes test zero lt = absurd (omega arith)
greatest-passes test (suc n) lt = step (test (suc n)) refl (greatest-passes test n) lt
  where
    step : (b : Bool) → test (suc n) ≡ b → (0 < greatest test n → test (greatest test n) ≡ true) → 0 < cond b (suc n) (greatest test n) → test (cond b (suc n) (greatest test n)) ≡ true
    step true e h lt = e
    step false e h lt = h lt

-- what passes is at most it
pub greatest-most : (test : ℕ → Bool) (n i : ℕ) → i ≤ n → test i ≡ true → i ≤ greatest test n
greatest-most test zero i le e = omega arith
greatest-most test (suc n) i le e = elim (cases_lt i (suc n)) [
  | inl lt ↦ step (test (suc n)) (greatest-most test n i (omega arith) e)
  | inr ge ↦
      let same : i ≡ suc n = omega arith in
      let passes : test (suc n) ≡ true = ap test (sym same) ∙ e in
      rw passes le
]
  where
    step : (b : Bool) → i ≤ greatest test n → i ≤ cond b (suc n) (greatest test n)
    step true below = le
    step false below = below

pub greatest-agree : (s t : ℕ → Bool) (n : ℕ) → ((i : ℕ) → i ≤ n → s i ≡ t i) → greatest s n ≡ greatest t n
greatest-agree s t zero h = refl
greatest-agree s t (suc n) h =
    let e : s (suc n) ≡ t (suc n) = h (suc n) (omega arith) in
    let r : greatest s n ≡ greatest t n = greatest-agree s t n (λ i le. h i (omega arith)) in
    rw (e, r) refl

-- # One step downwards

pub greatest-step : (test : ℕ → Bool) (n : ℕ) → 0 < n → greatest test n ≡ (if test n then n else greatest test (n - 1))
greatest-step test zero lt = absurd (omega arith)
greatest-step test (suc n) lt = rw sub-one refl

pub greatest-here : (test : ℕ → Bool) (n : ℕ) → 0 < n → test n ≡ true → greatest test n ≡ n
greatest-here test zero lt e = absurd (omega arith)
greatest-here test (suc n) lt e = rw e refl

pub greatest-below : (test : ℕ → Bool) (n : ℕ) → 0 < n → test n ≡ false → greatest test n ≡ greatest test (n - 1)
greatest-below test zero lt e = absurd (omega arith)
greatest-below test (suc n) lt e = rw (e, sub-one) refl
