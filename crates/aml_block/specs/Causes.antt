-- What a fault of a part is as a fault of the block.
use Rattle.aml_data.specs.declared.fault.DataFault.{DataFault}
use Rattle.aml_data.specs.declared.fault.DataFault.TheVariants.{Memory as no_data_memory}
use Rattle.aml_block.specs.declared.term_fault.TermFault.{TermFault}
use Rattle.aml_block.specs.declared.term_fault.TermFault.TheVariants.{Data as in_part, BadTerm as bad_term}
use Rattle.aml_block.specs.declared.fault.BlockFault.{BlockFault}
use Rattle.aml_block.specs.declared.fault.BlockFault.TheVariants.{Data as in_data, BadTerm, ReadFault, Memory}
use Rattle.aml_block.specs.declared.file.FileFault.{FileFault}
use Rattle.aml_block.specs.declared.file.FileFault.TheVariants as file_faults

-- want of memory stays want of memory
abbrev pub data_cause : DataFault → BlockFault
data_cause no_data_memory = Memory
data_cause fault = in_data fault

-- a fault of a term, and want of memory
abbrev pub term_cause : TermFault → BlockFault
term_cause (in_part fault) = data_cause fault
term_cause (bad_term at opcode) = BadTerm at opcode

-- a file that wasn't read, and want of memory
abbrev pub file_cause : FileFault → BlockFault
file_cause file_faults.ReadFault = ReadFault
file_cause file_faults.Memory = Memory
