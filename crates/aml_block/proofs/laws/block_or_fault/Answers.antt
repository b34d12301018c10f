use Rattle.aml_block.proofs.Blocks.{spelled_or_fault}
use Rattle.aml_block.proofs.laws.block_or_fault.Goals as goal

pub returns : goal.returns
returns c = spelled_or_fault
