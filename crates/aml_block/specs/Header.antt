-- The header of a definition block: 36 bytes (ACPI 6.5, 5.2.6).
use Rattle.std.specs.Prelude.{◌≡◌, ◌⊎◌, ℕ, ◌%◌, ◌≤◌, List, [], ◌∷◌, length, take, drop, slice_index, sum, nat_le, if◌then◌else◌}
use Rattle.std.specs.Int.{w32, from_le_bytes}
use Rattle.aml_data.specs.declared.data.Width.{Width}
use Rattle.aml_data.specs.declared.data.Width.TheVariants.{W32, W64}
use Rattle.aml_block.specs.declared.block.Signature.{Signature}
use Rattle.aml_block.specs.declared.block.Signature.TheVariants.{Dsdt, Ssdt}
use Rattle.aml_block.specs.declared.block.Header.{Header}
use Rattle.aml_block.specs.declared.header.TheConstants.{LARGEST, HEADER_SIZE}

-- the text of a signature
abbrev pub signature_text : Signature → List ℕ
signature_text Dsdt = 68 ∷ 83 ∷ 68 ∷ 84 ∷ []
signature_text Ssdt = 83 ∷ 83 ∷ 68 ∷ 84 ∷ []

-- so many bytes from a place on
abbrev pub field : ℕ → ℕ → List ℕ → List ℕ
field at n bytes = take n (drop at bytes)

-- the number of four bytes from a place on, lowest first
abbrev pub number_field : ℕ → List ℕ → ℕ
number_field at bytes = from_le_bytes w32 (field at 4 bytes)

-- Each field of the header stands at its place. The other two, Length at 4 and Checksum at 9, are facts of the bytes.
pub record IsHeader (header : Header) (bytes : List ℕ) : Type 0 where
  pub signature : field 0 4 bytes ≡ signature_text header.signature
  pub revision : slice_index bytes 8 ≡ header.revision
  pub oem_id : field 10 6 bytes ≡ header.oem_id
  pub oem_table_id : field 16 8 bytes ≡ header.oem_table_id
  pub oem_revision : number_field 24 bytes ≡ header.oem_revision
  pub creator_id : field 28 4 bytes ≡ header.creator_id
  pub creator_revision : number_field 32 bytes ≡ header.creator_revision

-- the header fits, and the block is at most 4 MiB
abbrev pub HasSize : List ℕ → Type 0
HasSize bytes = (HEADER_SIZE ≤ length bytes) × (length bytes ≤ LARGEST)

-- the signature is that of a definition block
abbrev pub HasSignature : List ℕ → Type 0
HasSignature bytes = (field 0 4 bytes ≡ signature_text Dsdt) ⊎ (field 0 4 bytes ≡ signature_text Ssdt)

-- the field Length is the number of bytes
abbrev pub HasLength : List ℕ → Type 0
HasLength bytes = number_field 4 bytes ≡ length bytes

-- all bytes sum to 0 modulo 256
abbrev pub HasSum : List ℕ → Type 0
HasSum bytes = sum bytes % 256 ≡ 0

-- the width of the integers of a table, by its own revision (ACPI 6.5, 5.2.11.1)
abbrev pub own_width : Header → Width
own_width header = if nat_le 2 header.revision then W64 else W32
