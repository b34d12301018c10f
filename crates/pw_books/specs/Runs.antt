-- Runs of a machine that seats share, of any kind: lists of the steps that they take, each with its seat's place and view.
use Rattle.std.specs.Prelude.{◌≡◌, ◌⊎◌, ℕ, List, [], ◌∷◌}
use mathlib.Core.Option.{some}
use lib.ListN.{get_elem?}

-- Of a machine its seats' views, when one of them may take a step, and what is so after it.
pub record Turning (M V K : Type 0) : Type 1 where
  pub views : M → List V
  pub May : M → ℕ → V → K → Type 0
  pub after : M → ℕ → V → K → M

module _ {M V K : Type 0} (T : Turning M V K) where
  -- the steps lead from one machine to the other
  abbrev pub Steps : M → List (ℕ × V × K) → M → Type 0
  Steps m [] end = m ≡ end
  Steps m (s ∷ ss) end = (get_elem? (T.views m) s.0 ≡ some s.1) × T.May m s.0 s.1 s.2 × Steps (T.after m s.0 s.1 s.2) ss end

-- # Turns that are found held, by which kinds of step find one

-- none of these steps does
abbrev pub NoFind : {K : Type 0} → (K → Type 0) → List K → Type 0
NoFind IsFind [] = Unit {0}
NoFind IsFind (k ∷ ks) = (IsFind k → ⊥) × NoFind IsFind ks

-- none of these steps of the seat at this place does
abbrev pub NoneFinds : {V K : Type 0} → (K → Type 0) → ℕ → List (ℕ × V × K) → Type 0
NoneFinds IsFind j [] = Unit {0}
NoneFinds IsFind j (s ∷ ss) = (s.0 ≡ j → IsFind s.2 → ⊥) × NoneFinds IsFind j ss

-- and by what is so after a step, and what such a step finds of a machine
module _ {M V K X : Type 0} (after : M → ℕ → V → K → M) (IsFind : K → Type 0) (FindsHeld : M → K → X → Type 0) where
  -- where the seat last finds a turn held, it finds this
  abbrev pub FoundLast : M → List (ℕ × V × K) → ℕ → X → Type 0
  FoundLast m [] j found = ⊥
  FoundLast m (s ∷ ss) j found =
      ((s.0 ≡ j) × FindsHeld m s.2 found × NoneFinds IsFind j ss) ⊎ FoundLast (after m s.0 s.1 s.2) ss j found
