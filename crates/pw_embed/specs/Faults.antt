-- The numbers of faults.
use Rattle.std.specs.Prelude.{◌+◌, ℕ}
use Rattle.acpi_values.specs.declared.fault.Place.{Place}
use Rattle.acpi_values.specs.declared.fault.Why.{Why}
use Rattle.acpi_values.specs.declared.fault.Why.TheVariants as whys
use Rattle.aml_data.specs.declared.fault.DataFault.{DataFault}
use Rattle.aml_data.specs.declared.fault.DataFault.TheVariants as data_faults
use Rattle.aml_block.specs.declared.fault.BlockFault.{BlockFault}
use Rattle.aml_block.specs.declared.fault.BlockFault.TheVariants as block_faults
use Rattle.aml_block.specs.declared.fault.HeaderFault.{HeaderFault}
use Rattle.aml_block.specs.declared.fault.HeaderFault.TheVariants as header_faults
use Rattle.pw_embed.specs.declared.faults.FaultNumbers.{FaultNumbers}

abbrev pub no_fault : FaultNumbers
no_fault = record { why = 0; outer = 0; inner = 0; found = 0; at = 0; path_length = 0 }

-- at this byte of a block, where this byte or opcode stands
abbrev pub at_byte : ℕ → ℕ → ℕ → FaultNumbers
at_byte why found at = record no_fault { why = why; found = found; at = at }

abbrev pub header_why : HeaderFault → ℕ
header_why header_faults.Large = 1
header_why header_faults.Short = 2
header_why header_faults.Signature = 3
header_why header_faults.Length = 4
header_why header_faults.Sum = 5

abbrev pub data_numbers : DataFault → FaultNumbers
data_numbers (data_faults.Short at) = at_byte 11 0 at
data_numbers (data_faults.BadLead at byte) = at_byte 12 byte at
data_numbers (data_faults.BadLength at) = at_byte 13 0 at
data_numbers (data_faults.BadName at) = at_byte 14 0 at
data_numbers (data_faults.BadText at) = at_byte 15 0 at
data_numbers (data_faults.TooMany at) = at_byte 16 0 at
data_numbers (data_faults.TooDeep at) = at_byte 17 0 at
data_numbers data_faults.Memory = no_fault

-- the numbers of a block's fault: want of memory and of a file aren't one of the bytes
abbrev pub block_numbers : BlockFault → FaultNumbers
block_numbers (block_faults.Header why) = at_byte (header_why why) 0 0
block_numbers (block_faults.Data fault) = data_numbers fault
block_numbers (block_faults.BadTerm at opcode) = at_byte 21 opcode at
block_numbers block_faults.ReadFault = no_fault
block_numbers block_faults.Memory = no_fault

abbrev pub why_of : Why → ℕ
why_of whys.Kind = 31
why_of whys.Count = 32
why_of whys.Revision = 33
why_of whys.Range = 34
why_of whys.Register = 35

-- a path of this length that two objects are given
abbrev pub twice_numbers : ℕ → FaultNumbers
twice_numbers path_length = record no_fault { path_length = path_length }

-- an object that means nothing, at this place in it, with a path of this length
abbrev pub object_numbers : Place → Why → ℕ → FaultNumbers
object_numbers place why path_length =
    record no_fault { why = why_of why; outer = place.outer; inner = place.inner; path_length = path_length }

-- a limit of plans that this count passes
abbrev pub limit_numbers : ℕ → ℕ → FaultNumbers
limit_numbers which number = record no_fault { why = 40 + which; found = number }
