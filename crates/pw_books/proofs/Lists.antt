-- Lists read by index, sums, and 1 for what is so.
use Rattle.std.proofs.Common.{◌≡◌, ◌≢◌, ◌⊎◌, inl, inr, ⊎_elim, ℕ, zero, suc, ◌+◌, ◌<◌, ◌≤◌, List, [], ◌∷◌, ◌++◌, Bool, true, false, true≢false, length, map, get_or, set, eqb, ltb, eq-eqb, ne_eqb, lt-ltb, le-ltb, sym, refl, ap, ◌∙◌, subst, arith, Option, Some, None, is_none}
use mathlib.Core.Option.{some, some-injective, some-ne-none}
use mathlib.Core.Logic.{dite}
use native.Mathlib.Decide.{ℕ_discrete, dec_le}
use lib.ListN.{get_elem?}
use Rattle.pw_books.specs.Sums.{total, bit, names, once_below}

module _ {A : Type 0} where
  pub at_set : (l : List A) (i j : ℕ) (a b : A) → get_elem? (set l i a) j ≡ some b
      → ((j ≡ i) × (a ≡ b)) ⊎ ((j ≢ i) × (get_elem? l j ≡ some b))
  at_set [] i j a b e = absurd (some-ne-none b (sym e))
  at_set (x ∷ xs) zero zero a b e = inl (refl, some-injective a b e)
  at_set (x ∷ xs) zero (suc j) a b e = inr ((λ h. omega arith), e)
  at_set (x ∷ xs) (suc i) zero a b e = inr ((λ h. omega arith), e)
  at_set (x ∷ xs) (suc i) (suc j) a b e = ⊎_elim (λ t. inl (ap suc t.0, t.1)) (λ t. let n = t.0 in inr ((λ h. n (omega arith)), t.1)) (at_set xs i j a b e)

  pub set_here : (l : List A) (i : ℕ) (a : A) → i < length l → get_elem? (set l i a) i ≡ some a
  set_here [] i a h = absurd (omega arith)
  set_here (x ∷ xs) zero a h = refl
  set_here (x ∷ xs) (suc i) a h = set_here xs i a (omega arith)

  pub set_else : (l : List A) (i j : ℕ) (a : A) → j ≢ i → get_elem? (set l i a) j ≡ get_elem? l j
  set_else [] i j a n = refl
  set_else (x ∷ xs) zero zero a n = absurd (n refl)
  set_else (x ∷ xs) zero (suc j) a n = refl
  set_else (x ∷ xs) (suc i) zero a n = refl
  set_else (x ∷ xs) (suc i) (suc j) a n = set_else xs i j a (λ e. n (ap suc e))

  pub at_map : {B : Type 0} (f : A → B) (l : List A) (i : ℕ) (a : A) → get_elem? l i ≡ some a → get_elem? (map f l) i ≡ some (f a)
  at_map f [] i a e = absurd (some-ne-none a (sym e))
  at_map f (x ∷ xs) zero a e = ap (λ (y : A). some (f y)) (some-injective x a e)
  at_map f (x ∷ xs) (suc i) a e = at_map f xs i a e

  pub at_longer : (l m : List A) (i : ℕ) (a : A) → get_elem? l i ≡ some a → get_elem? (l ++ m) i ≡ some a
  at_longer [] m i a e = absurd (some-ne-none a (sym e))
  at_longer (x ∷ xs) m zero a e = e
  at_longer (x ∷ xs) m (suc i) a e = at_longer xs m i a e

  pub at_snoc : (l : List A) (a b : A) (j : ℕ) → get_elem? (l ++ a ∷ []) j ≡ some b → (get_elem? l j ≡ some b) ⊎ (a ≡ b)
  at_snoc [] a b zero e = inr (some-injective a b e)
  at_snoc [] a b (suc j) e = absurd (some-ne-none b (sym e))
  at_snoc (x ∷ xs) a b zero e = inl e
  at_snoc (x ∷ xs) a b (suc j) e = at_snoc xs a b j e

  pub total-append : (g : A → ℕ) (l m : List A) → total g (l ++ m) ≡ total g l + total g m
  total-append g [] m = omega arith
  total-append g (x ∷ xs) m = omega (arith, total-append g xs m)

  pub total-set : (g : A → ℕ) (l : List A) (j : ℕ) (v w : A) → get_elem? l j ≡ some v → total g (set l j w) + g v ≡ total g l + g w
  total-set g [] j v w e = absurd (some-ne-none v (sym e))
  total-set g (x ∷ xs) zero v w e = omega (arith, ap g (some-injective x v e))
  total-set g (x ∷ xs) (suc j) v w e = omega (arith, total-set g xs j v w e)

  pub term_le : (g : A → ℕ) (l : List A) (j : ℕ) (v : A) → get_elem? l j ≡ some v → g v ≤ total g l
  term_le g [] j v e = absurd (some-ne-none v (sym e))
  term_le g (x ∷ xs) zero v e = omega (arith, ap g (some-injective x v e))
  term_le g (x ∷ xs) (suc j) v e = omega (arith, term_le g xs j v e)

  pub terms_le : (g : A → ℕ) (l : List A) (j k : ℕ) (v u : A) → k ≢ j → get_elem? l j ≡ some v → get_elem? l k ≡ some u
      → g v + g u ≤ total g l
  terms_le g [] j k v u n e d = absurd (some-ne-none v (sym e))
  terms_le g (x ∷ xs) zero zero v u n e d = absurd (n refl)
  terms_le g (x ∷ xs) zero (suc k) v u n e d = omega (arith, ap g (some-injective x v e), term_le g xs k u d)
  terms_le g (x ∷ xs) (suc j) zero v u n e d = omega (arith, ap g (some-injective x u d), term_le g xs j v e)
  terms_le g (x ∷ xs) (suc j) (suc k) v u n e d = omega (arith, terms_le g xs j k v u (λ h. n (ap suc h)) e d)

  -- some view counts, where the sum is more than 0
  pub total_some : (g : A → ℕ) (l : List A) → 0 < total g l → (j : ℕ) × (v : A) × (get_elem? l j ≡ some v) × (0 < g v)
  total_some g [] h = absurd (omega arith)
  total_some g (x ∷ xs) h = dite (ℕ_discrete (g x) 0) (λ z. let t = total_some g xs (omega arith) in (suc t.0, t.1, t.2, t.3)) (λ nz. (zero, x, refl, omega arith))

-- what is so of each element, where one is set, and besides one more put behind or another set
module _ {A : Type 0} (P : ℕ → A → Type 0) (l : List A) (i : ℕ) (a : A) (here : P i a) (other : (j : ℕ) (b : A) → j ≢ i → get_elem? l j ≡ some b → P j b) where
  pub set_each : (j : ℕ) (b : A) → get_elem? (set l i a) j ≡ some b → P j b
  set_each j b there = ⊎_elim
      (λ (t : (j ≡ i) × (a ≡ b)). subst (λ j. P j b) (sym t.0) (subst (P i) t.1 here))
      (λ (t : (j ≢ i) × (get_elem? l j ≡ some b)). other j b t.0 t.1)
      (at_set l i j a b there)

  pub more_each : (r : A) → ((j : ℕ) → P j r) → (j : ℕ) (b : A) → get_elem? (set l i a ++ r ∷ []) j ≡ some b → P j b
  more_each r new j b there = ⊎_elim
      (λ (before : get_elem? (set l i a) j ≡ some b). set_each j b before)
      (λ (last : r ≡ b). subst (P j) last (new j))
      (at_snoc (set l i a) r b j there)

  pub both_each : (k : ℕ) (r : A) → P k r → (j : ℕ) (b : A) → get_elem? (set (set l i a) k r) j ≡ some b → P j b
  both_each k r gone j b there = ⊎_elim
      (λ (t : (j ≡ k) × (r ≡ b)). subst (λ j. P j b) (sym t.0) (subst (P k) t.1 gone))
      (λ (t : (j ≢ k) × (get_elem? (set l i a) j ≡ some b)). set_each j b t.1)
      (at_set (set l i a) k j r b there)

-- what is found in a list stands below its length
pub elem_below : {A : Type 0} (l : List A) (i : ℕ) (a : A) → get_elem? l i ≡ some a → i < length l
elem_below [] i a e = absurd (some-ne-none a (sym e))
elem_below (x ∷ xs) zero a e = omega arith
elem_below (x ∷ xs) (suc i) a e = let lt = elem_below xs i a e in omega (arith, lt)

pub turn_below : (l : List ℕ) (t : ℕ) → get_or l t 0 ≢ 0 → t < length l
turn_below [] t ne = absurd (ne refl)
turn_below (x ∷ xs) zero ne = omega arith
turn_below (x ∷ xs) (suc t) ne = let lt = turn_below xs t ne in omega (arith, lt)

pub one : (a b : ℕ) → a ≡ b → bit (eqb a b) ≡ 1
one a b e = ap bit (eq-eqb a b e)

pub none-of : (a b : ℕ) → a ≢ b → bit (eqb a b) ≡ 0
none-of a b ne = ap bit (ne_eqb a b ne)

pub one-of : (a b : ℕ) → 0 < bit (eqb a b) → a ≡ b
one-of a b h = dite (ℕ_discrete a b) (λ e. e) (λ ne. absurd (omega (arith, h, none-of a b ne)))

pub bit_one : (b : Bool) → b ≡ true → bit b ≡ 1
bit_one b e = ap bit e

pub bit_zero : (b : Bool) → b ≡ false → bit b ≡ 0
bit_zero b e = ap bit e

pub is_true : (b : Bool) → 0 < bit b → b ≡ true
is_true true h = refl
is_true false h = absurd (omega arith)

pub is_false : (b : Bool) → bit b ≡ 0 → b ≡ false
is_false true h = absurd (omega arith)
is_false false h = refl

pub off : {A : Type 0} (b : Bool) → b ≡ false → b ≡ true → A
off b e f = absurd (true≢false (sym f ∙ e))

pub names_zero : (n : ℕ) → names 0 n ≡ 0
names_zero n = ap bit (ne_eqb 0 (suc n) (λ e. omega arith))

pub names_same : (n : ℕ) → names (suc n) n ≡ 1
names_same n = ap bit (eq-eqb (suc n) (suc n) refl)

pub names_le : (t n : ℕ) → names t n ≤ 1
names_le t n = step (eqb t (suc n))
  where
    step : (b : Bool) → bit b ≤ 1
    step true = omega arith
    step false = omega arith

pub names_is : (t n : ℕ) → 0 < names t n → t ≡ suc n
names_is t n h = dite (ℕ_discrete t (suc n)) (λ e. e) (λ ne. absurd (omega (arith, ap bit (ne_eqb t (suc n) ne))))

pub once_le : (n made : ℕ) → once_below n made ≤ 1
once_le n made = step (ltb n made)
  where
    step : (b : Bool) → bit b ≤ 1
    step true = omega arith
    step false = omega arith

pub once_yes : (n made : ℕ) → n < made → once_below n made ≡ 1
once_yes n made h = ap bit (lt-ltb n made h)

pub once_no : (n made : ℕ) → made ≤ n → once_below n made ≡ 0
once_no n made h = ap bit (le-ltb n made h)

pub once_more : (n made : ℕ) → bit (eqb made n) + once_below n made ≡ once_below n (made + 1)
once_more n made = dite (ℕ_discrete made n)
    (λ e. omega (arith, ap bit (eq-eqb made n e), once_no n made (omega arith), once_yes n (made + 1) (omega arith)))
    (λ ne. dite (dec_le made n)
    (λ le. omega (arith, ap bit (ne_eqb made n ne), once_no n made le, once_no n (made + 1) (omega arith)))
    (λ nle. omega (arith, ap bit (ne_eqb made n ne), once_yes n made (omega arith), once_yes n (made + 1) (omega arith))))

pub either_is : (b : Bool) → (b ≡ true) ⊎ (b ≡ false)
either_is true = inl refl
either_is false = inr refl

-- what is found in a list with one more is found before, or is the last
pub last_or_before : {A : Type 0} (l : List A) (a b : A) (j : ℕ) → get_elem? (l ++ a ∷ []) j ≡ some b
    → (get_elem? l j ≡ some b) ⊎ ((j ≡ length l) × (a ≡ b))
last_or_before [] a b zero e = inr (refl, some-injective a b e)
last_or_before [] a b (suc j) e = absurd (some-ne-none b (sym e))
last_or_before (x ∷ xs) a b zero e = inl e
last_or_before (x ∷ xs) a b (suc j) e = ⊎_elim (λ h. inl h) (λ h. inr (ap suc h.0, h.1)) (last_or_before xs a b j e)

pub some_at : {A : Type 0} (l : List A) (i : ℕ) → i < length l → (a : A) × (get_elem? l i ≡ some a)
some_at [] i h = absurd (omega (arith, h))
some_at (x ∷ xs) zero h = (x, refl)
some_at (x ∷ xs) (suc i) h = some_at xs i (omega (arith, h))

pub none_of : {A : Type 0} (o : Option A) → is_none o ≡ true → o ≡ None
none_of None e = refl
none_of (Some x) e = absurd (cc)
