-- What reading a file step by step gives.
use Rattle.std.specs.Prelude.{◌≡◌, ℕ, ◌+◌, ◌<◌, ◌≤◌, List, ◌++◌, length, take, drop, Option, Some, IsSome}

-- n bytes of a content, from a place on, stand behind the bytes before that place; there are none only at the end
pub record Continues (content : List ℕ) (filled n : ℕ) (old new : List ℕ) : Type 0 where
  pub bytes : take (filled + n) new ≡ take filled old ++ take n (drop filled content)
  pub within : n ≤ length (drop filled content)
  pub some : n ≡ 0 → length content ≤ filled

-- the first bytes are those of the content, and once there are some, there is a content
pub record Begins (held : Option (List ℕ)) (filled : ℕ) (bytes : List ℕ) : Type 0 where
  pub same : (content : List ℕ) → held ≡ Some content → (take filled bytes ≡ take filled content) × (filled ≤ length content)
  pub is_held : 0 < filled → IsSome held
