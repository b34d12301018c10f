-- The first fault of a block: that of its header, and behind a right header that of its terms. Places count from the first
-- byte of the block.
use Rattle.std.specs.Prelude.{ℕ, ◌<◌, List, length, drop}
use Rattle.aml_block.specs.declared.term_fault.TermFault.{TermFault}
use Rattle.aml_block.specs.TermFaults.{TermsFail}
use Rattle.aml_block.specs.declared.fault.HeaderFault.{HeaderFault}
use Rattle.aml_block.specs.declared.fault.HeaderFault.TheVariants.{Large, Short, Signature, Length, Sum}
use Rattle.aml_block.specs.declared.fault.BlockFault.{BlockFault}
use Rattle.aml_block.specs.declared.fault.BlockFault.TheVariants.{Header as in_header}
use Rattle.aml_block.specs.declared.header.TheConstants.{LARGEST, HEADER_SIZE}
use Rattle.aml_block.specs.Causes.{term_cause}
use Rattle.aml_block.specs.Header.{HasSize, HasSignature, HasLength, HasSum}

-- The first of the five that holds, in this order.
abbrev pub HeaderFails : List ℕ → HeaderFault → Type 0
HeaderFails bytes Large = LARGEST < length bytes
HeaderFails bytes Short = length bytes < HEADER_SIZE
HeaderFails bytes Signature = HasSize bytes × (HasSignature bytes → ⊥)
HeaderFails bytes Length = HasSize bytes × HasSignature bytes × (HasLength bytes → ⊥)
HeaderFails bytes Sum = HasSize bytes × HasSignature bytes × HasLength bytes × (HasSum bytes → ⊥)

-- a block: its header, and only behind a right one its terms
pub data BlockFails : List ℕ → BlockFault → Type 0 where
  fails_in_header : {bytes : List ℕ} {why : HeaderFault} → HeaderFails bytes why → BlockFails bytes (in_header why)
  fails_in_terms : {bytes : List ℕ} (fault : TermFault) → HasSize bytes → HasSignature bytes → HasLength bytes → HasSum bytes
      → TermsFail (length bytes) (drop HEADER_SIZE bytes) fault → BlockFails bytes (term_cause fault)
