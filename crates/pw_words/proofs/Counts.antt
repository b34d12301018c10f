-- Which words are a number of clusters.
use Rattle.std.proofs.Common.{◌≡◌, ◌∙◌, ◌∷◌, ◌++◌, ◌+◌, ◌/◌, ◌%◌, ◌<◌, ◌≤◌, ◌⊎◌, inl, inr, arith, ℕ, zero, suc, Bool, true, false}
use Rattle.std.proofs.Common.{refl, sym, ap, ap₂, subst, [], length, get_or, decimal, true≢false, ne_eqb}
use Rattle.std.specs.Str.{bytes_eq}
use Rattle.std.proofs.lemmas.Bool.{cases_lt}
use Rattle.std.proofs.lemmas.Fmt.{decimal_digit, decimal_step}
use Rattle.std.proofs.lemmas.Slice.Eq.{bytes_eq-Decides}
use Rattle.clap.specs.Walk.{Text}
use Rattle.pw_words.specs.Words.{IsCount, is_dashed}

pub two_digits : (n : ℕ) → 10 ≤ n → n < 100 → decimal n ≡ (48 + n / 10) ∷ (48 + n % 10) ∷ []
two_digits n low high =
    decimal_step n low (omega arith)
    ∙ ap (λ ds. ds ++ (48 + n % 10) ∷ []) (decimal_digit (n / 10) (omega arith))

-- the word of a number: one digit, or two
spelled : (word : Text) (n : ℕ) → IsCount word n
    → ((word ≡ (48 + n) ∷ []) × (n < 10)) ⊎ (word ≡ (48 + n / 10) ∷ (48 + n % 10) ∷ [])
spelled word n p =
    let few = p.few in
    elim p.digits [
      | inl is ↦ elim (cases_lt 9 n) [
        | inl two ↦ inr (is ∙ two_digits n two (omega arith))
        | inr one ↦ inl (is ∙ decimal_digit n (omega arith), omega arith)
      ]
      | inr two ↦ inr two
    ]

pub bare_count : (word : Text) (n : ℕ) → IsCount word n → is_dashed word ≡ false
bare_count word n p = elim (spelled word n p) [
  | inl one ↦ ap is_dashed one.0 ∙ ne_eqb (48 + n) 45 (λ e. omega arith)
  | inr two ↦ ap is_dashed two ∙ ne_eqb (48 + n / 10) 45 (λ e. omega arith)
]

-- those of one digit, and those of two
pub one_is : (ones n : ℕ) → IsCount (ones ∷ []) n → (ones ≡ 48 + n) × (1 ≤ n) × (n < 10)
one_is ones n p = elim (spelled (ones ∷ []) n p) [
  | inl one ↦ (ap (λ w. get_or w 0 0) one.0, p.some, one.1)
  | inr two ↦ let bad = ap length two in absurd (omega arith)
]

pub of_one : (ones n : ℕ) → ones ≡ 48 + n → 1 ≤ n → n < 10 → IsCount (ones ∷ []) n
of_one ones n is some one =
    record { digits = inl (ap (λ x. x ∷ []) is ∙ sym (decimal_digit n one)); some = some; few = omega arith }

pub two_are : (tens ones n : ℕ) → IsCount (tens ∷ ones ∷ []) n
    → (tens ≡ 48 + n / 10) × (ones ≡ 48 + n % 10) × (1 ≤ n) × (n ≤ 32)
two_are tens ones n p = elim (spelled (tens ∷ ones ∷ []) n p) [
  | inl one ↦ let bad = ap length one.0 in absurd (omega arith)
  | inr two ↦ (ap (λ w. get_or w 0 0) two, ap (λ w. get_or w 1 0) two, p.some, p.few)
]

pub of_two : (tens ones n : ℕ) → tens ≡ 48 + n / 10 → ones ≡ 48 + n % 10 → 1 ≤ n → n ≤ 32 → IsCount (tens ∷ ones ∷ []) n
of_two tens ones n first second some few =
    record { digits = inr (ap₂ (λ x y. x ∷ y ∷ []) first second); some = some; few = few }

pub few_digits : (word : Text) (n : ℕ) → IsCount word n → (1 ≤ length word) × (length word ≤ 2)
few_digits word n p = elim (spelled word n p) [
  | inl one ↦ let same = ap length one.0 in (omega arith, omega arith)
  | inr two ↦ let same = ap length two in (omega arith, omega arith)
]

pub one_count : (word : Text) (m n : ℕ) → IsCount word m → IsCount word n → m ≡ n
one_count word m n p q = elim (spelled word m p) [
  | inl a ↦ let is = one_is (48 + m) n (subst (λ (w : Text). IsCount w n) a.0 q) in omega arith
  | inr a ↦
      let are = two_are (48 + m / 10) (48 + m % 10) n (subst (λ (w : Text). IsCount w n) a q) in
      let tens = are.0 in let ones = are.1 in omega arith
]

-- ---- whether a word is one

abbrev Counted : Text → Type 0
Counted word = (n : ℕ) × IsCount word n

same_text : (v w : Text) → (v ≡ w) ⊎ (v ≡ w → ⊥)
same_text v w = go (bytes_eq v w) refl
  where
    go : (b : Bool) → bytes_eq v w ≡ b → (v ≡ w) ⊎ (v ≡ w → ⊥)
    go true e = inl ((bytes_eq-Decides v w).0 e)
    go false e = inr (λ same. true≢false (sym ((bytes_eq-Decides v w).1 same) ∙ e))

-- of a number up to this
up_to : (word : Text) (k : ℕ) → k ≤ 32 → Counted word ⊎ ((n : ℕ) → n ≤ k → IsCount word n → ⊥)
up_to word zero low = inr (λ n within is. (let some = is.some in omega arith))
up_to word (suc k) low = elim (same_text word (decimal (suc k))) [
  | inl one ↦ inl (suc k, record { digits = inl one; some = omega arith; few = low })
  | inr no_one ↦ elim (same_text word ((48 + suc k / 10) ∷ (48 + suc k % 10) ∷ [])) [
    | inl two ↦ inl (suc k, record { digits = inr two; some = omega arith; few = low })
    | inr no_two ↦ elim (up_to word k (omega arith)) [
      | inl found ↦ inl found
      | inr none ↦ inr (λ n within is. elim (cases_lt k n) [
        | inl past ↦
            let last : n ≡ suc k = omega arith in
            elim is.digits [
              | inl e ↦ no_one (e ∙ ap decimal last)
              | inr e ↦ no_two (e ∙ ap (λ m. (48 + m / 10) ∷ (48 + m % 10) ∷ []) last)
            ]
        | inr under ↦ none n under is
      ])
    ]
  ]
]

pub counted : (word : Text) → Counted word ⊎ ((n : ℕ) → IsCount word n → ⊥)
counted word = elim (up_to word 32 (omega arith)) [
  | inl found ↦ inl found
  | inr none ↦ inr (λ n is. none n is.few is)
]
