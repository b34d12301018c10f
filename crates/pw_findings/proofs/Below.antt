-- The first number that passes a test.
use Rattle.std.proofs.Common.{eqb-true, ◌≡◌, ◌⊎◌, ◌∙◌, ◌<◌, ◌≤◌, ◌+◌, ◌-◌, ◌==◌, inl, inr, ℕ, zero, suc, Bool, true, false, List, length, max, min, take, get_or-take, Option, Some, None, is_some, refl, sym, arith}
use Rattle.std.proofs.lemmas.Bool.{cases_lt}
use Rattle.std.proofs.lemmas.List.{length-take}
use Rattle.std.proofs.lemmas.List.Quantifiers.{position-Some}
use Rattle.pw_findings.specs.Firsts.{earlier, first_below, number_in, stood}

-- what is found stays found among more
stays : (test : ℕ → Bool) (n m k : ℕ) → first_below test n ≡ Some k → first_below test (n + m) ≡ Some k
stays test n zero k e = let z : n + 0 ≡ n = omega arith in rw z e
stays test n (suc m) k e = let s : n + suc m ≡ suc (n + m) = omega arith in rw (s, stays test n m k e) refl

-- where none is found below k, and k passes, it is the first below any greater number
pub first_is : (test : ℕ → Bool) (k n : ℕ) → first_below test k ≡ None → test k ≡ true → k < n → first_below test n ≡ Some k
first_is test k n none here l =
    let e : n ≡ suc k + (n - suc k) = omega arith in
    let found : first_below test (suc k) ≡ Some k = rw (none, here) refl in
    rw e (stays test (suc k) (n - suc k) k found)

-- where none is found below k, and k doesn't pass, none is found one further
pub none_further : (test : ℕ → Bool) (k : ℕ) → first_below test k ≡ None → test k ≡ false → first_below test (k + 1) ≡ None
none_further test k none here = let e : k + 1 ≡ suc k = omega arith in rw (e, none, here) refl

-- # Numbers that can't be equal

-- where all numbers before place k are between two others, one that isn't between these didn't stand before it
abbrev pub Between : List ℕ → ℕ → ℕ → ℕ → Type 0
Between numbers k least most = (j : ℕ) → j < k → (least ≤ number_in numbers j) × (number_in numbers j ≤ most)

none_earlier : (numbers : List ℕ) (k least most : ℕ) → Between numbers k least most
    → ((number_in numbers k < least) ⊎ (most < number_in numbers k))
    → (o : Option ℕ) → earlier numbers k ≡ o → is_some o ≡ false
none_earlier numbers k least most between out None e = refl
none_earlier numbers k least most between out (Some i) e =
    let s = position-Some (λ n. n == number_in numbers k) (take k numbers) i 0 e in
    let fewer : length (take k numbers) ≤ k = (let m = length-take k numbers in omega arith) in
    let before : i < k = (let l = s.0 in omega arith) in
    let same : number_in numbers i ≡ number_in numbers k = sym (get_or-take k numbers i 0 before) ∙ eqb-true _ _ s.1 in
    let b = between i before in
    absurd (elim out [
      | inl less ↦ let x = b.0 in omega arith
      | inr more ↦ let x = b.1 in omega arith
    ])

pub outside : (numbers : List ℕ) (k least most : ℕ) → Between numbers k least most
    → ((number_in numbers k < least) ⊎ (most < number_in numbers k)) → stood numbers k ≡ false
outside numbers k least most between out = none_earlier numbers k least most between out (earlier numbers k) refl

-- one more number
pub wider : (numbers : List ℕ) (k least most : ℕ) → Between numbers k least most
    → Between numbers (k + 1) (min least (number_in numbers k)) (max most (number_in numbers k))
wider numbers k least most between j l = elim (cases_lt j k) [
  | inl before ↦ let b = between j before in (omega arith, omega arith)
  | inr past ↦ let here : j ≡ k = omega arith in rw here (omega arith, omega arith)
]
