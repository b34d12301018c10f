-- Integer constants and lengths: what is written spells the number, and no spelling is shorter.
use Rattle.std.proofs.Common.{◌≡◌, ◌+◌, ◌*◌, ◌/◌, ◌%◌, ◌<◌, ◌≤◌, ◌^◌, ℕ, Bool, true, false, cond, eqb, ltb, List, [], ◌∷◌, length, refl, sym, subst, arith}
use Rattle.std.proofs.lemmas.Bool.{eqb-true, eqb-false}
use Rattle.std.proofs.lemmas.Bool.Decides.{nat_tests}
use Rattle.std.specs.Int.{w16, w32, w64, to_le_bytes}
use Rattle.aml_data.specs.Grammar.{Const, spells_zero, spells_one, spells_byte, spells_word, spells_double, spells_quad}
use Rattle.aml_data.specs.Grammar.{Len, spells_one_byte_length, spells_two_byte_length, spells_three_byte_length, spells_four_byte_length}
use Rattle.aml_data.specs.Written.{written_constant, written_length, one_byte_length, two_byte_length, three_byte_length, four_byte_length}
use Rattle.pw_base.proofs.Facts.{by_test}

below : (a b : ℕ) → ltb a b ≡ true → a < b
below a b e = grind (arith, nat_tests)

above : (a b : ℕ) → ltb a b ≡ false → b ≤ a
above a b e = grind (arith, nat_tests)

-- ---- integer constants

-- what holds of each row that may be written
constant_cases : (P : List ℕ → Type 0) (n : ℕ) → (n ≡ 0 → P (0 ∷ [])) → (n ≡ 1 → P (1 ∷ [])) → (1 < n → n < 256 → P (10 ∷ n ∷ []))
    → (256 ≤ n → n < 65536 → P (11 ∷ to_le_bytes w16 n)) → (65536 ≤ n → n < 4294967296 → P (12 ∷ to_le_bytes w32 n))
    → (4294967296 ≤ n → P (14 ∷ to_le_bytes w64 n)) → P (written_constant n)
constant_cases P n none one byte word double quad =
    by_test P (eqb n 0) _ _ (λ e. none (eqb-true _ _ e))
    (λ e0. by_test P (eqb n 1) _ _ (λ e. one (eqb-true _ _ e))
    (λ e1. let a = eqb-false _ _ e0 in let b = eqb-false _ _ e1 in by_test P (ltb n 256) _ _ (λ e. byte (omega arith) (below _ _ e))
    (λ e2. by_test P (ltb n 65536) _ _ (λ e. word (above _ _ e2) (below _ _ e))
    (λ e3. by_test P (ltb n 4294967296) _ _ (λ e. double (above _ _ e3) (below _ _ e))
    (λ e4. quad (above _ _ e4))))))

pub constant_spelled : (n : ℕ) → n < 2 ^ 64 → Const n (written_constant n)
constant_spelled n lt =
    constant_cases (Const n) n (λ e. subst (λ (k : ℕ). Const k (0 ∷ [])) (sym e) spells_zero) (λ e. subst (λ (k : ℕ). Const k (1 ∷ [])) (sym e) spells_one)
    (λ a b. spells_byte n b) (λ a b. spells_word n b) (λ a b. spells_double n b) (λ a. spells_quad n lt)

-- no longer than any bound that each smaller row keeps
constant_at_most : (n k : ℕ) → (1 ≤ k) → (1 < n → 2 ≤ k) → (256 ≤ n → 3 ≤ k) → (65536 ≤ n → 5 ≤ k) → (4294967296 ≤ n → 9 ≤ k) → length (written_constant n) ≤ k
constant_at_most n k one two three five nine =
    constant_cases (λ c. length c ≤ k) n (λ e. one) (λ e. one) (λ a b. two a) (λ a b. three a) (λ a b. five a) (λ a. nine a)

pub constant_least : (n : ℕ) (c : List ℕ) → Const n c → length (written_constant n) ≤ length c
constant_least n c spells_zero = constant_at_most 0 1 (omega arith) (λ h. omega arith) (λ h. omega arith) (λ h. omega arith) (λ h. omega arith)
constant_least n c spells_one = constant_at_most 1 1 (omega arith) (λ h. omega arith) (λ h. omega arith) (λ h. omega arith) (λ h. omega arith)
constant_least n c (spells_byte k lt) = constant_at_most k 2 (omega arith) (λ h. omega arith) (λ h. omega arith) (λ h. omega arith) (λ h. omega arith)
constant_least n c (spells_word k lt) = constant_at_most k 3 (omega arith) (λ h. omega arith) (λ h. omega arith) (λ h. omega arith) (λ h. omega arith)
constant_least n c (spells_double k lt) = constant_at_most k 5 (omega arith) (λ h. omega arith) (λ h. omega arith) (λ h. omega arith) (λ h. omega arith)
constant_least n c (spells_quad k lt) = constant_at_most k 9 (omega arith) (λ h. omega arith) (λ h. omega arith) (λ h. omega arith) (λ h. omega arith)

pub constant_fits : (n : ℕ) (c : List ℕ) → Const n c → n < 2 ^ 64
constant_fits n c spells_zero = omega arith
constant_fits n c spells_one = omega arith
constant_fits n c (spells_byte k lt) = omega arith
constant_fits n c (spells_word k lt) = omega arith
constant_fits n c (spells_double k lt) = omega arith
constant_fits n c (spells_quad k lt) = lt

-- ---- lengths

-- what holds of each row that may be written
length_cases : (P : List ℕ → Type 0) (n : ℕ) → (n < 63 → P (one_byte_length (n + 1))) → (63 ≤ n → n < 4094 → P (two_byte_length (n + 2)))
    → (4094 ≤ n → n < 1048573 → P (three_byte_length (n + 3))) → (1048573 ≤ n → P (four_byte_length (n + 4))) → P (written_length n)
length_cases P n one two three four =
    by_test P (ltb n 63) _ _ (λ e. one (below _ _ e))
    (λ e1. by_test P (ltb n 4094) _ _ (λ e. two (above _ _ e1) (below _ _ e))
    (λ e2. by_test P (ltb n 1048573) _ _ (λ e. three (above _ _ e2) (below _ _ e))
    (λ e3. four (above _ _ e3))))

two_spelled : (whole : ℕ) → whole < 0x1000 → Len whole (two_byte_length whole)
two_spelled whole lt =
    let is : whole % 16 + 16 * (whole / 16) ≡ whole = omega arith in
    subst (λ (k : ℕ). Len k (two_byte_length whole)) is (spells_two_byte_length (whole % 16) (whole / 16) (omega arith) (omega arith))

three_spelled : (whole : ℕ) → whole < 0x10_0000 → Len whole (three_byte_length whole)
three_spelled whole lt =
    let is : whole % 16 + 16 * (whole / 16 % 256) + 0x1000 * (whole / 0x1000) ≡ whole = omega arith in
    subst (λ (k : ℕ). Len k (three_byte_length whole)) is (spells_three_byte_length (whole % 16) (whole / 16 % 256) (whole / 0x1000) (omega arith) (omega arith) (omega arith))

four_spelled : (whole : ℕ) → whole < 268435456 → Len whole (four_byte_length whole)
four_spelled whole lt =
    let is : whole % 16 + 16 * (whole / 16 % 256) + 0x1000 * (whole / 0x1000 % 256) + 0x10_0000 * (whole / 0x10_0000) ≡ whole = omega arith in
    subst (λ (k : ℕ). Len k (four_byte_length whole)) is
    (spells_four_byte_length (whole % 16) (whole / 16 % 256) (whole / 0x1000 % 256) (whole / 0x10_0000) (omega arith) (omega arith) (omega arith) (omega arith))

pub length_spelled : (n : ℕ) → n ≤ 268435451 → Len (length (written_length n) + n) (written_length n)
length_spelled n le =
    length_cases (λ p. Len (length p + n) p) n
    (λ lt. subst (λ (k : ℕ). Len k (one_byte_length (n + 1))) (omega arith) (spells_one_byte_length (n + 1) (omega arith)))
    (λ a b. subst (λ (k : ℕ). Len k (two_byte_length (n + 2))) (omega arith) (two_spelled (n + 2) (omega arith)))
    (λ a b. subst (λ (k : ℕ). Len k (three_byte_length (n + 3))) (omega arith) (three_spelled (n + 3) (omega arith)))
    (λ a. subst (λ (k : ℕ). Len k (four_byte_length (n + 4))) (omega arith) (four_spelled (n + 4) (omega arith)))

-- no longer than any bound that each smaller row keeps
length_at_most : (n k : ℕ) → 1 ≤ k → (63 ≤ n → 2 ≤ k) → (4094 ≤ n → 3 ≤ k) → (1048573 ≤ n → 4 ≤ k) → length (written_length n) ≤ k
length_at_most n k one two three four = length_cases (λ p. length p ≤ k) n (λ lt. one) (λ a b. two a) (λ a b. three a) (λ a. four a)

least_for : (m n : ℕ) (p : List ℕ) → Len m p → m ≡ length p + n → length (written_length n) ≤ length p
least_for m n p (spells_one_byte_length k lt) e = length_at_most n 1 (omega arith) (λ h. omega arith) (λ h. omega arith) (λ h. omega arith)
least_for m n p (spells_two_byte_length a b la lb) e = length_at_most n 2 (omega arith) (λ h. omega arith) (λ h. omega arith) (λ h. omega arith)
least_for m n p (spells_three_byte_length a b c la lb lc) e = length_at_most n 3 (omega arith) (λ h. omega arith) (λ h. omega arith) (λ h. omega arith)
least_for m n p (spells_four_byte_length a b c d la lb lc ld) e = length_at_most n 4 (omega arith) (λ h. omega arith) (λ h. omega arith) (λ h. omega arith)

pub length_least : (n : ℕ) (p : List ℕ) → Len (length p + n) p → length (written_length n) ≤ length p
length_least n p h = least_for (length p + n) n p h refl

-- the length of fewer bytes is no longer
pub length_grows : (m n : ℕ) → m ≤ n → length (written_length m) ≤ length (written_length n)
length_grows m n le =
    length_cases (λ p. length (written_length m) ≤ length p) n
    (λ lt. length_at_most m 1 (omega arith) (λ h. omega arith) (λ h. omega arith) (λ h. omega arith))
    (λ a lt. length_at_most m 2 (omega arith) (λ h. omega arith) (λ h. omega arith) (λ h. omega arith))
    (λ a lt. length_at_most m 3 (omega arith) (λ h. omega arith) (λ h. omega arith) (λ h. omega arith))
    (λ a. length_at_most m 4 (omega arith) (λ h. omega arith) (λ h. omega arith) (λ h. omega arith))
