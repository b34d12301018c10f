-- What spells a block: its header, and then its terms (ACPI 6.5, 5.2.11).
use Rattle.std.specs.Prelude.{ℕ, List, drop}
use Rattle.aml_block.specs.Grammar.{TermsSpell}
use Rattle.aml_block.specs.declared.block.Block.{Block}
use Rattle.aml_block.specs.declared.header.TheConstants.{HEADER_SIZE}
use Rattle.aml_block.specs.Header.{IsHeader, HasSize, HasLength, HasSum}

-- The whole bytes spell a block.
pub record BlockSpells (block : Block) (bytes : List ℕ) : Type 0 where
  pub size : HasSize bytes
  pub header : IsHeader block.header bytes
  pub length_field : HasLength bytes
  pub checksum : HasSum bytes
  pub terms : TermsSpell block.terms (drop HEADER_SIZE bytes)
