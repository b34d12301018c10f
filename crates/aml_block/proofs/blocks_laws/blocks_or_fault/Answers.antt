use Rattle.aml_block.proofs.SomeReading.{held_or_fault, absent_alone}
use Rattle.aml_block.proofs.blocks_laws.blocks_or_fault.Goals as goal

pub returns-clause-one : goal.returns-clause-one
returns-clause-one c = held_or_fault

pub returns-clause-alone : goal.returns-clause-alone
returns-clause-alone c = absent_alone
