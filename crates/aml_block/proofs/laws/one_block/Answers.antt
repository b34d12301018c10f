use Rattle.aml_block.proofs.Blocks.{same_block}
use Rattle.aml_block.proofs.laws.one_block.Goals as goal

pub returns : goal.returns
returns c = same_block
