-- PkgLength: what spells a length, and its first fault (ACPI 6.5, 20.2.4).
use Rattle.std.specs.Prelude.{◌≡◌, ◌≢◌, ◌⊎◌, ℕ, ◌+◌, ◌-◌, ◌*◌, ◌/◌, ◌%◌, ◌<◌, ◌≤◌, List, [], ◌∷◌, ◌++◌, length}
use Rattle.aml_data.specs.declared.fault.DataFault.{DataFault}
use Rattle.aml_data.specs.declared.fault.DataFault.TheVariants.{Short, BadLength}

-- PkgLength: the two high bits of the lead byte count the bytes that follow it. Where there are some, its bits 5 and 4
-- are 0 and its low four bits are the least of the length (ACPI 6.5, 20.2.4).
pub data Len : ℕ → List ℕ → Type 0 where
  spells_one_byte_length : (n : ℕ) → n < 64 → Len n (n ∷ [])
  spells_two_byte_length : (a b : ℕ) → a < 16 → b < 256 → Len (a + 16 * b) ((0x40 + a) ∷ b ∷ [])
  spells_three_byte_length : (a b c : ℕ) → a < 16 → b < 256 → c < 256 → Len (a + 16 * b + 0x1000 * c) ((0x80 + a) ∷ b ∷ c ∷ [])
  spells_four_byte_length : (a b c d : ℕ) → a < 16 → b < 256 → c < 256 → d < 256
      → Len (a + 16 * b + 0x1000 * c + 0x10_0000 * d) ((0xC0 + a) ∷ b ∷ c ∷ d ∷ [])

-- PkgLength: the reserved bits of its lead byte, then the bytes that follow it, then whether the length is at least that of
-- its own bytes and at most that of all bytes (ACPI 6.5, 20.2.4)
pub data LenFails : ℕ → List ℕ → DataFault → Type 0 where
  fails_no_length : {end : ℕ} → LenFails end [] (Short end)
  fails_reserved_bit : {end lead : ℕ} {rest : List ℕ} → 64 ≤ lead → lead / 16 % 4 ≢ 0
      → LenFails end (lead ∷ rest) (BadLength (end - length (lead ∷ rest)))
  fails_few_following : {end lead : ℕ} {rest : List ℕ} → (64 ≤ lead → lead / 16 % 4 ≡ 0) → length rest < lead / 64
      → LenFails end (lead ∷ rest) (Short end)
  fails_wrong_length : {end n : ℕ} (p rest : List ℕ) → Len n p → (n < length p) ⊎ (length (p ++ rest) < n)
      → LenFails end (p ++ rest) (BadLength (end - length (p ++ rest)))
