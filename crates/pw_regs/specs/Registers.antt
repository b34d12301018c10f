-- Registers that are operated: what each call keeps.
use Rattle.std.specs.Prelude.{◌≡◌, ◌≤◌, ℕ, Bool}

-- What no call of registers changes: whether they tell; and a count never falls.
pub record KeepsRegisters {S : Type 0} (told : S → Bool) (faults : S → ℕ) (old new : S) : Type 0 where
  pub same_told : told new ≡ told old
  pub count : faults old ≤ faults new
