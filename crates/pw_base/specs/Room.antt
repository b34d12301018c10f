-- Lists with a capacity.
use Rattle.std.specs.Prelude.{ℕ, List}

-- The elements in order, and how many there may be without taking memory.
pub record Bounded (T : Type 0) : Type 0 where
  pub elements : List T
  pub capacity : ℕ
