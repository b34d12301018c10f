-- What a fault of one block is among several.
use Rattle.std.specs.Prelude.{ℕ}
use Rattle.aml_block.specs.declared.fault.BlockFault.{BlockFault}
use Rattle.aml_block.specs.declared.fault.BlockFault.TheVariants.{ReadFault as unread, Memory as no_memory}
use Rattle.aml_block.specs.declared.blocks_fault.BlocksFault.{BlocksFault}
use Rattle.aml_block.specs.declared.blocks_fault.BlocksFault.TheVariants.{Block as in_block, ReadFault, Memory}

-- a fault of the outside has the number of its file, and want of memory has none
abbrev pub numbered : ℕ → BlockFault → BlocksFault
numbered number unread = ReadFault number
numbered number no_memory = Memory
numbered number fault = in_block number fault
