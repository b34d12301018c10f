-- Lists in which each element stands so at its place.
use Rattle.std.proofs.Common.{◌≡◌, ◌<◌, ◌+◌, ℕ, List, [], ◌∷◌, ◌++◌, length, get_or, sym, subst, arith, inl, inr}
use Rattle.std.proofs.Math.ListN.{get_or-append}
use Rattle.std.proofs.Math.Seq.{get_or-append_seam}
use Rattle.std.proofs.lemmas.Bool.{cases_lt}

-- one more at the end
pub placed_more : {X : Type 0} (Q : ℕ → X → Type 0) (d : X) (xs : List X) (x : X) (i : ℕ) → length xs ≡ i → ((n : ℕ) → n < i → Q n (get_or xs n d)) → Q i x
    → (n : ℕ) → n < i + 1 → Q n (get_or (xs ++ x ∷ []) n d)
placed_more Q d xs x i len each here n lt = elim (cases_lt n i) [
  | inl below ↦ subst (λ y. Q n y) (sym (get_or-append xs (x ∷ []) d n (omega (arith, below, len)))) (each n below)
  | inr above ↦
      let is : n ≡ length xs = omega (arith, above, lt, len) in
      let same : n ≡ i = omega (arith, above, lt) in
      let found : get_or (xs ++ x ∷ []) n d ≡ x = rw is (get_or-append_seam xs x [] d) in
      subst (λ y. Q n y) (sym found) (subst (λ k. Q k x) (sym same) here)
]
