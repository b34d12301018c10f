use Rattle.aml_block.proofs.OneReading.{same_first_fault, blocks_not_fault}
use Rattle.aml_block.proofs.blocks_laws.one_fault_or_blocks.Goals as goal

pub returns-clause-one : goal.returns-clause-one
returns-clause-one c = λ holds names f g p q. same_first_fault holds 1 0 names f g p q

pub returns-clause-apart : goal.returns-clause-apart
returns-clause-apart c = λ holds names blocks f p q. blocks_not_fault holds 1 0 names blocks f p q
