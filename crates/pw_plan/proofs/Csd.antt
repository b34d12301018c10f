-- Entries of `_CSD` one by one.
use Rattle.std.proofs.Common.{◌≡◌, ◌<◌, ◌+◌, ℕ, arith, ◌≢◌, ◌⊎◌, inl, inr}
use Rattle.std.proofs.lemmas.Bool.Decides.{eqb_tells}

-- whoever is below n + 1 is below n, or n
pub last_of : (k n : ℕ) → k < n + 1 → (k < n) ⊎ (k ≡ n)
last_of k n lt = elim (eqb_tells k n) [ inl e ↦ inr e.1 | inr e ↦ inl (let d : k ≢ n = e.1 in omega (arith, d)) ]
