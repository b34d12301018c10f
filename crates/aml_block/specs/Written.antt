-- The written form of a block: of every part the shortest spelling, with the length and the checksum that fit it.
use Rattle.std.specs.Prelude.{◌≡◌, ℕ, ◌+◌, ◌-◌, ◌%◌, ◌≤◌, ◌<◌, ◌^◌, List, ◌∷◌, ◌++◌, length, sum}
use Rattle.std.specs.Int.{w32, to_le_bytes}
use Rattle.aml_block.specs.WrittenTerms.{written_terms, AreWritableTerms}
use Rattle.aml_block.specs.declared.block.Block.{Block}
use Rattle.aml_block.specs.declared.block.Header.{Header}
use Rattle.aml_block.specs.declared.header.TheConstants.{LARGEST, HEADER_SIZE}
use Rattle.aml_block.specs.Header.{signature_text}

-- a header with this length and checksum (ACPI 6.5, 5.2.6)
abbrev pub written_header : Header → ℕ → ℕ → List ℕ
written_header h whole checksum =
    signature_text h.signature ++ to_le_bytes w32 whole ++ h.revision ∷ checksum ∷ h.oem_id ++ h.oem_table_id
    ++ to_le_bytes w32 h.oem_revision ++ h.creator_id ++ to_le_bytes w32 h.creator_revision

-- the byte that brings a sum to 0 modulo 256
abbrev pub checksum_for : ℕ → ℕ
checksum_for total = (256 - total % 256) % 256

-- terms behind the header that fits them
abbrev pub written_behind : Header → List ℕ → List ℕ
written_behind h terms =
    let whole = HEADER_SIZE + length terms in
    written_header h whole (checksum_for (sum (written_header h whole 0 ++ terms))) ++ terms

-- a block
unfoldable pub written_block : Block → List ℕ
written_block block = written_behind block.header (written_terms block.terms)

-- # What can be written

-- A block that can be written: each of its terms can, and together with the header they have at most 4 MiB.
pub record IsWritableBlock (block : Block) : Type 0 where
  pub terms : AreWritableTerms block.terms
  pub short : HEADER_SIZE + length (written_terms block.terms) ≤ LARGEST

-- A header whose fields are in their ranges, as those of each `Header` are.
pub record IsInRange (h : Header) : Type 0 where
  pub revision : h.revision < 2 ^ 8
  pub oem_id : length h.oem_id ≡ 6
  pub oem_table_id : length h.oem_table_id ≡ 8
  pub oem_revision : h.oem_revision < 2 ^ 32
  pub creator_id : length h.creator_id ≡ 4
  pub creator_revision : h.creator_revision < 2 ^ 32
