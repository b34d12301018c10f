use Rattle.aml_block.proofs.WholeLists.{whole_of, of_whole}
use Rattle.aml_block.proofs.blocks_laws.whole_list.Goals as goal

pub returns : goal.returns
returns c = λ holds names blocks. (whole_of holds names blocks, of_whole holds names blocks)
