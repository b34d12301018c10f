-- The containers from one on upwards.
use Rattle.std.proofs.Common.{◌≡◌, ◌<◌, ◌≤◌, ℕ, suc, zero, List, [], ◌∷◌, length, Option, Some, None, refl, ap, arith, true}
use Rattle.std.proofs.lemmas.Bool.Decides.{nat_tests}
use Rattle.pw_plan.specs.declared.parts.ContainerParts.{ContainerParts}
use Rattle.pw_plan.specs.Parts.{ParentsFall, container_in, is_below}
use Rattle.pw_plan.specs.Tree.{line_within, line_from}

pub parent_below : (n m : ℕ) (p : Option ℕ) → is_below n p ≡ true → p ≡ Some m → m < n
parent_below n m None b e = cc
parent_below n m (Some k) b e = let i : k ≡ m = cc in grind (arith, nat_tests)

-- where a line may begin
abbrev pub Within : List ContainerParts → ℕ → Option ℕ → Type 0
Within cs bound from = (k : ℕ) → from ≡ Some k → (k < bound) × (k < length cs)

module _ (cs : List ContainerParts) (fall : ParentsFall cs) where
  pub within_parent : (bound k : ℕ) → Within cs (suc bound) (Some k) → Within cs bound (container_in cs k).parent
  within_parent bound k w j e =
      let b : (k < suc bound) × (k < length cs) = w k refl in
      let lt : j < k = parent_below k j (container_in cs k).parent (fall k b.1) e in
      (omega arith, omega arith)

  -- past the number of the first the bound makes no difference
  pub line_within-enough : (f g : ℕ) (from : Option ℕ) → Within cs f from → Within cs g from → line_within f cs from ≡ line_within g cs from
  unfolding line_within
  line_within-enough zero zero from v w = refl
  line_within-enough zero (suc g) None v w = refl
  line_within-enough zero (suc g) (Some k) v w = absurd (omega (arith, (v k refl).0))
  line_within-enough (suc f) zero None v w = refl
  line_within-enough (suc f) zero (Some k) v w = absurd (omega (arith, (w k refl).0))
  line_within-enough (suc f) (suc g) None v w = refl
  line_within-enough (suc f) (suc g) (Some k) v w = ap (λ ns. k ∷ ns) (line_within-enough f g (container_in cs k).parent (within_parent f k v) (within_parent g k w))

  -- the line from a container goes on with the line from its parent
  pub line_from-Some : (n : ℕ) → n < length cs → line_from cs (Some n) ≡ n ∷ line_from cs (container_in cs n).parent
  unfolding line_within
  line_from-Some n lt = line_within-enough (length cs) (suc (length cs)) (Some n) (λ k e. let i : n ≡ k = cc in (omega arith, omega arith)) (λ k e. let i : n ≡ k = cc in (omega arith, omega arith))

pub line_within-None : (cs : List ContainerParts) (bound : ℕ) → line_within bound cs None ≡ []
unfolding line_within
line_within-None cs zero = refl
line_within-None cs (suc bound) = refl

-- no line is longer than its bound
pub line_within-length : (cs : List ContainerParts) (bound : ℕ) (from : Option ℕ) → length (line_within bound cs from) ≤ bound
unfolding line_within
line_within-length cs zero from = omega arith
line_within-length cs (suc bound) None = omega arith
line_within-length cs (suc bound) (Some n) = let r = line_within-length cs bound (container_in cs n).parent in omega (arith, r)
