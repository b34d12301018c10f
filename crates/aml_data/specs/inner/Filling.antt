-- Bytes that are put into a room from its end on.
use Rattle.std.specs.Prelude.{◌≡◌, ℕ, ◌+◌, ◌≤◌, List, ◌++◌, length, take, drop}

-- A room holds these bytes from start to end now, and else what it held.
pub record Fills (old new : List ℕ) (start end : ℕ) (bytes : List ℕ) : Type 0 where
  pub within : end ≤ length old
  pub reach : start + length bytes ≡ end
  pub is : new ≡ take start old ++ (bytes ++ drop end old)
