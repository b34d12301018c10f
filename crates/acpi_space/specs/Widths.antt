-- The width of the integers that blocks place, in words (ACPI 6.5, 5.2.11.1).
use Rattle.std.specs.Prelude.{◌≢◌, ◌<◌, ◌≤◌, ℕ, List}
use Rattle.std.specs.List.{All}
use Rattle.aml_data.specs.declared.data.Width.{Width}
use Rattle.aml_data.specs.declared.data.Width.TheVariants.{W32, W64}
use Rattle.aml_block.specs.declared.block.Block.{Block}
use Rattle.aml_block.specs.declared.block.Signature.TheVariants.{Dsdt}
use Rattle.acpi_space.specs.Namespace.{Entry}

-- it is 32 bits where the revision is below 2, and else 64
abbrev pub IsWidthBy : ℕ → Width → Type 0
IsWidthBy revision W32 = revision < 2
IsWidthBy revision W64 = 2 ≤ revision

-- so are the integers of all these objects
abbrev pub AreOfWidthBy : ℕ → List Entry → Type 0
AreOfWidthBy revision entries = All (λ (e : Entry). IsWidthBy revision e.width) entries

-- none of these blocks is a DSDT
abbrev pub HaveNoDsdt : List Block → Type 0
HaveNoDsdt blocks = All (λ (b : Block). b.header.signature ≢ Dsdt) blocks
