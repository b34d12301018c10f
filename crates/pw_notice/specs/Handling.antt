-- Which limit is to stand after a notification (ACPI 6.5, 8.4.5.3 and 8.4.4.3).
use Rattle.std.specs.Prelude.{◌≡◌, ◌<◌, ◌≤◌, ◌+◌, ◌-◌, ◌^◌, ℕ, min, nat_lt, if◌then◌else◌}

-- the value, or the last state where it is past that
abbrev pub followed : ℕ → ℕ → ℕ
followed count value = min value (count - 1)

-- one state from the limit that stands towards that
abbrev pub stepped : ℕ → ℕ → ℕ → ℕ
stepped count current value =
    if nat_lt current (followed count value) then current + 1 else
    if nat_lt (followed count value) current then current - 1 else
    current

-- A function, by what it asks of its arguments and what it says of its answer: it may be called for every count of at
-- least one state, every limit below it and every value, and what it answers is below the count.
pub record Handles (pre : ℕ → ℕ → ℕ → Type 0) (post : ℕ → ℕ → ℕ → ℕ → Type 0) : Type 0 where
  pub callable : (count current value : ℕ) → 1 ≤ count → current < count → count < 2 ^ 32 → value < 2 ^ 32 → pre count current value
  pub below : (count current value n : ℕ) → 1 ≤ count → current < count → count < 2 ^ 32 → value < 2 ^ 32 → post count current value n
      → n < count

-- What it answers is the value of a function, as that of `stepped` for one that answers as `step` does.
abbrev pub HandlesAs : (ℕ → ℕ → ℕ → ℕ) → (ℕ → ℕ → ℕ → ℕ → Type 0) → Type 0
HandlesAs answer post = (count current value n : ℕ) → 1 ≤ count → current < count → count < 2 ^ 32 → value < 2 ^ 32
    → post count current value n → n ≡ answer count current value
