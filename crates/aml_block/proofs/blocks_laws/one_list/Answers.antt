use Rattle.aml_block.proofs.OneReading.{same_blocks}
use Rattle.aml_block.proofs.blocks_laws.one_list.Goals as goal

pub returns : goal.returns
returns c = λ holds names a b p q. same_blocks holds 0 names a b p q
