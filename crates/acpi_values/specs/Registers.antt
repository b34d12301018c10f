-- The bytes of a register: a resource template of one generic register descriptor and the end tag
-- (ACPI 6.5, 6.4.3.7 and 6.4.2.9).
use Rattle.std.specs.Prelude.{◌==◌, ◌%◌, ◌||◌, not, ℕ, Bool, List, [], ◌∷◌, ◌++◌, length, take, drop, sum, find, slice_index, Option, Some, None, Result, Ok, Err, if◌then◌else◌}
use Rattle.std.specs.Int.{w64, from_le_bytes, to_le_bytes}
use Rattle.acpi_values.specs.declared.register.Register.{Register}
use Rattle.acpi_values.specs.declared.register.RegisterFault.{RegisterFault}
use Rattle.acpi_values.specs.declared.register.RegisterFault.TheVariants.{Length, Tag, Sum}

-- the four bytes that every such template has, and their places: the descriptor's name and length, and the end tag
abbrev pub tags : List (ℕ × ℕ)
tags = (0, 130) ∷ (1, 12) ∷ (2, 0) ∷ (15, 121) ∷ []

-- the first of these places where another byte stands
abbrev pub wrong_tag : List ℕ → Option (ℕ × ℕ)
wrong_tag bytes = find (λ (t : ℕ × ℕ). not (slice_index bytes t.0 == t.1)) tags

-- the checksum is 0, which counts as right, or brings the sum to 0 modulo 256
abbrev pub has_sum : List ℕ → Bool
has_sum bytes = (slice_index bytes 16 == 0) || (sum bytes % 256 == 0)

-- the fields at their places
abbrev pub register_in : List ℕ → Register
register_in bytes = record {
  space = slice_index bytes 3;
  width = slice_index bytes 4;
  offset = slice_index bytes 5;
  access = slice_index bytes 6;
  address = from_le_bytes w64 (take 8 (drop 7 bytes));
}

-- what 17 bytes say, of which this is the first wrong tag
abbrev pub tagged_register : List ℕ → Option (ℕ × ℕ) → Result Register RegisterFault
tagged_register bytes (Some t) = Err (Tag t.0)
tagged_register bytes None = if has_sum bytes then Ok (register_in bytes) else Err (Sum (sum bytes % 256))

-- The register of these bytes, or what is wrong first: their number, a tag, the sum.
unfoldable pub register_of : List ℕ → Result Register RegisterFault
register_of bytes = if length bytes == 17 then tagged_register bytes (wrong_tag bytes) else Err (Length (length bytes))

-- The bytes of a register, with checksum 0.
abbrev pub register_bytes : Register → List ℕ
register_bytes r = 130 ∷ 12 ∷ 0 ∷ r.space ∷ r.width ∷ r.offset ∷ r.access ∷ to_le_bytes w64 r.address ++ 121 ∷ 0 ∷ []
