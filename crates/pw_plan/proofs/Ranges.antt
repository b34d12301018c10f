-- Ranges of numbers, as a loop goes over them.
use Rattle.std.proofs.Common.{◌≡◌, ◌<◌, ◌≤◌, ◌+◌, ◌-◌, ℕ, suc, zero, Bool, true, false, cond, List, [], ◌∷◌, ◌++◌, map, length, refl, ap, sym, ◌∙◌, arith, append_assoc}
use Rattle.std.specs.Prelude.{filter}
use Rattle.std.specs.List.{range_with_len, flat_map}

-- a number and those behind it
pub range_next : (n m : ℕ) → n < m → range_with_len n (m - n) ≡ n ∷ range_with_len (n + 1) (m - (n + 1))
range_next n m lt = step (m - n) (m - (n + 1)) (omega arith)
  where
    step : (a b : ℕ) → a ≡ suc b → range_with_len n a ≡ n ∷ range_with_len (n + 1) b
    step a b e = rw e refl

-- past the end there is nothing
pub range_end : (n m : ℕ) → m ≤ n → range_with_len n (m - n) ≡ []
range_end n m le = step (m - n) (omega arith)
  where
    step : (a : ℕ) → a ≡ 0 → range_with_len n a ≡ []
    step a e = rw e refl

pub range_length : (n m : ℕ) → length (range_with_len n m) ≡ m
range_length n zero = refl
range_length n (suc m) = ap suc (range_length (n + 1) m)

-- # What a loop over a range has pushed so far, and what the rest of the range makes

module _ {X : Type 0} (acc whole : List X) (n m : ℕ) (lt : n < m) where
  pub pushed_map : (f : ℕ → X) (x : X) → x ≡ f n → acc ++ map f (range_with_len n (m - n)) ≡ whole → (acc ++ x ∷ []) ++ map f (range_with_len (n + 1) (m - (n + 1))) ≡ whole
  pushed_map f x e h = rw (append_assoc, e) (ap (λ r. acc ++ map f r) (sym (range_next n m lt)) ∙ h)

  pub pushed_flat_map : (f : ℕ → List X) → acc ++ flat_map f (range_with_len n (m - n)) ≡ whole → (acc ++ f n) ++ flat_map f (range_with_len (n + 1) (m - (n + 1))) ≡ whole
  pushed_flat_map f h = rw append_assoc (ap (λ r. acc ++ flat_map f r) (sym (range_next n m lt)) ∙ h)

  pub pushed_filter : (f : ℕ → X) (t : ℕ → Bool) (x : X) → x ≡ f n → t n ≡ true → acc ++ map f (filter t (range_with_len n (m - n))) ≡ whole
      → (acc ++ x ∷ []) ++ map f (filter t (range_with_len (n + 1) (m - (n + 1)))) ≡ whole
  pushed_filter f t x e p h =
      rw (append_assoc, e) (ap (λ b. acc ++ map f (cond b (n ∷ filter t (range_with_len (n + 1) (m - (n + 1)))) (filter t (range_with_len (n + 1) (m - (n + 1))))))
      (sym p) ∙ ap (λ r. acc ++ map f (filter t r)) (sym (range_next n m lt)) ∙ h)

  pub passed_filter : (f : ℕ → X) (t : ℕ → Bool) → t n ≡ false → acc ++ map f (filter t (range_with_len n (m - n))) ≡ whole → acc ++ map f (filter t (range_with_len (n + 1) (m - (n + 1)))) ≡ whole
  passed_filter f t p h =
      ap (λ b. acc ++ map f (cond b (n ∷ filter t (range_with_len (n + 1) (m - (n + 1)))) (filter t (range_with_len (n + 1) (m - (n + 1)))))) (sym p) ∙ ap
      (λ r. acc ++ map f (filter t r)) (sym (range_next n m lt)) ∙ h
