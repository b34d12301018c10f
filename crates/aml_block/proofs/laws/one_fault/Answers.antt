use Rattle.aml_block.proofs.Blocks.{same_fault, no_fault}
use Rattle.aml_block.proofs.laws.one_fault.Goals as goal

pub returns-clause-one : goal.returns-clause-one
returns-clause-one c = same_fault

pub returns-clause-apart : goal.returns-clause-apart
returns-clause-apart c = no_fault
