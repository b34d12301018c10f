-- The lines of the error output.
use Rattle.std.specs.Prelude.{ℕ, ◌==◌, List, ◌++◌, codes, decimal, if◌then◌else◌}
use Rattle.aml_data.specs.declared.fault.DataFault.{DataFault}
use Rattle.aml_data.specs.declared.fault.DataFault.TheVariants as data_faults
use Rattle.aml_block.specs.declared.fault.HeaderFault.{HeaderFault}
use Rattle.aml_block.specs.declared.fault.HeaderFault.TheVariants as header_faults
use Rattle.aml_block.specs.declared.fault.BlockFault.{BlockFault}
use Rattle.aml_block.specs.declared.fault.BlockFault.TheVariants as block_faults
use Rattle.aml_block.specs.declared.blocks_fault.BlocksFault.{BlocksFault}
use Rattle.aml_block.specs.declared.blocks_fault.BlocksFault.TheVariants as blocks_faults
use Rattle.pw_text.specs.Text.{hex_text, place_text}

-- what is wrong with a header
abbrev pub header_word : HeaderFault → List ℕ
header_word header_faults.Large = codes "large"
header_word header_faults.Short = codes "short"
header_word header_faults.Signature = codes "signature"
header_word header_faults.Length = codes "length"
header_word header_faults.Sum = codes "sum"

-- a place and what is wrong there
abbrev pub at_place : ℕ → List ℕ → List ℕ
at_place at what = codes "at " ++ decimal at ++ what

-- what is wrong with a name, a length or an object
abbrev pub data_words : DataFault → List ℕ
data_words (data_faults.Short at) = at_place at (codes " short")
data_words (data_faults.BadLead at byte) = at_place at (codes " lead " ++ hex_text byte)
data_words (data_faults.BadLength at) = at_place at (codes " length")
data_words (data_faults.BadName at) = at_place at (codes " name")
data_words (data_faults.BadText at) = at_place at (codes " text")
data_words (data_faults.TooMany at) = at_place at (codes " too many")
data_words (data_faults.TooDeep at) = at_place at (codes " too deep")
data_words data_faults.Memory = codes "no memory"

-- what is wrong with a block
abbrev pub fault_words : BlockFault → List ℕ
fault_words (block_faults.Header why) = codes "header " ++ header_word why
fault_words (block_faults.Data fault) = data_words fault
fault_words (block_faults.BadTerm at opcode) = at_place at (codes " term " ++ hex_text opcode)
fault_words block_faults.ReadFault = codes "read fault"
fault_words block_faults.Memory = codes "no memory"

-- How the line of a block's own fault begins: with the number of the block, from 1, where several are named.
abbrev pub block_start : ℕ → ℕ → List ℕ
block_start many number = if many == 1 then codes "block: " else codes "block " ++ decimal number ++ codes ": "

-- the line of a block's own fault, where so many are named
abbrev pub fault_line : ℕ → ℕ → BlockFault → List ℕ
fault_line many number fault = block_start many number ++ fault_words fault ++ codes "\n"

-- the line of what is first at fault, where so many blocks are named
abbrev pub blocks_line : ℕ → BlocksFault → List ℕ
blocks_line many (blocks_faults.Block number fault) = fault_line many number fault
blocks_line many blocks_faults.Large = codes "blocks: larger than 16777216\n"
blocks_line many (blocks_faults.ReadFault number) = codes "read fault\n"
blocks_line many blocks_faults.Memory = codes "no memory\n"

-- the line of a place at which two objects are placed
abbrev pub twice_line : List (List ℕ) → List ℕ
twice_line place = codes "block: " ++ place_text place ++ codes " given twice\n"
